use Rattle.std.proofs.Common.{◌≡◌, ℕ, ◌<◌, ◌≤◌, List, [], length, vec_len, eqb-true, sym, ap, ◌∙◌, subst, arith, rules, All, IfErr}
use Rattle.sessions.proofs.CommonNames.{length-map, PlainStep, Entry, max_sessions, boxed_script, OwnEntries, RefusesFor, AreFew}
use Rattle.sessions.proofs.Owned.{nothing_ran}
use Rattle.sessions.proofs.Pairing.{kept_below, kept_own, kept_plays, kept_tells, same_count, short_plain, some_of}
use Rattle.sessions.proofs.run.run_sessions.Goals as goal

pub returns-then-is_empty-clause-entries : goal.returns-then-is_empty-clause-entries
returns-then-is_empty-clause-entries g c = λ k d lt. let none = ap length (c.of_log.ensures ∙ c.empty-log.ensures) in absurd (omega arith)

pub returns-then-is_empty-clause-transcripts : goal.returns-then-is_empty-clause-transcripts
returns-then-is_empty-clause-transcripts g c =
    let none_yet = ap length c.new.ensures.items in
    let empty : vec_len c.args.scripts ≡ 0 = eqb-true (vec_len c.args.scripts) 0 (sym c.is_empty.ensures ∙ c.if-is_empty.true) in
    let none : length c.args.scripts.items ≡ 0 = omega (arith, empty) in
    (none_yet ∙ sym none, λ k s t lt. absurd (omega (arith, none)))

pub returns-then-is_empty-clause-reports : goal.returns-then-is_empty-clause-reports
returns-then-is_empty-clause-reports g c =
    let empty : vec_len c.args.scripts ≡ 0 = eqb-true (vec_len c.args.scripts) 0 (sym c.is_empty.ensures ∙ c.if-is_empty.true) in
    let none : length c.args.scripts.items ≡ 0 = omega (arith, empty) in
    λ k s t lt. absurd (omega (arith, none))

pub returns-then-is_empty-clause-own : goal.returns-then-is_empty-clause-own
returns-then-is_empty-clause-own g c = subst (λ (log : List Entry). OwnEntries c.args.host log) (sym (c.of_log.ensures ∙ c.empty-log.ensures)) (nothing_ran {O = ℕ} (λ n. []) c.args.host c.assert_invariant.ensures).own

pub play-requires-clause-count : goal.play-requires-clause-count
play-requires-clause-count g c κs within =
    let count = c.in-Ok.scripts.ok.0 ∙ same_count boxed_script g.S.Scripted.plain c.in-Ok.scripts.items c.args.scripts.items c.in-Ok.ensures.scripts ∙ sym c.args.scripts.ok.0 in
    let some : 0 < vec_len c.args.scripts = some_of (vec_len c.args.scripts) (sym c.is_empty.ensures ∙ c.if-is_empty.false) in
    let few : vec_len c.args.scripts ≤ max_sessions = search rules in
    subst (λ (n : ℕ). (0 < n) × (n ≤ max_sessions)) (sym count) (some, few)

pub play-requires-clause-short : goal.play-requires-clause-short
play-requires-clause-short g c κs within = subst (λ (ps : List (ℕ × List PlainStep)). All AreFew ps) (sym c.in-Ok.ensures.scripts) (short_plain g.S.Scripted.plain g.S.Scripted.count g.met.S.Scripted.counts c.args.scripts.items c.requires)

pub returns-in_err-left-clause-refuses : goal.returns-in_err-left-clause-refuses
returns-in_err-left-clause-refuses g c =
    let count = c.in-Ok.scripts.ok.0 ∙ same_count boxed_script g.S.Scripted.plain c.in-Ok.scripts.items c.args.scripts.items c.in-Ok.ensures.scripts ∙ sym c.args.scripts.ok.0 in
    subst (λ (n : ℕ). IfErr c.from_residual.result (RefusesFor n)) count (search rules)

pub returns-clause-entries : goal.returns-clause-entries
returns-clause-entries g c =
    let count = ap length c.in-Ok.ensures.scripts ∙ length-map c.args.scripts.items g.S.Scripted.plain ∙ sym c.args.scripts.ok.0 in
    kept_below _ _ _ _ _ _ _ c.in_ok-left.ensures.ran c.of_log-kept.ensures (vec_len c.args.scripts) count

pub returns-clause-transcripts : goal.returns-clause-transcripts
returns-clause-transcripts g c = kept_plays _ _ _ _ _ _ _ c.in_ok-left.ensures.ran c.of_log-kept.ensures g.S.Scripted.plain c.args.scripts.items c.in-Ok.ensures.scripts

pub returns-clause-reports : goal.returns-clause-reports
returns-clause-reports g c = kept_tells g.S.Scripted.report g.S.Report.Report.tells _ c.args.scripts.items c.in_ok-left.left.transcripts.items c.in_ok-left.ensures.reports c.in-Ok.ensures.reports

pub returns-clause-own : goal.returns-clause-own
returns-clause-own g c = kept_own _ _ _ _ _ _ _ c.in_ok-left.ensures.ran c.of_log-kept.ensures
