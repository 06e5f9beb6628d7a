use Rattle.std.proofs.Common.{rules, ◌≡◌, ◌+◌, [], ◌∷◌, ◌++◌, List, length, map, reverse, vec_len, sym, ap, ◌∙◌, subst, arith, length-append}
use Rattle.sessions.proofs.CommonNames.{length-reverse, reverse-reverse, Each, SessionData, BoxedScript, SessionScript, IsBegun, script_report, script_session, script_steps, report_of, steps_of}
use Rattle.sessions.proofs.Scripts.{next_step}
use Rattle.sessions.proofs.Pairing.{map_snoc, each_snoc}
use Rattle.sessions.proofs.preparing.zip_sessions.Goals as goal

pub loop-script-init : goal.loop-script-init
loop-script-init g c =
    let none_yet : c.in_ok-jobs.jobs.items ≡ [] = c.in_ok-jobs.ensures.items in
    let a = length-reverse c.args.sessions.items in
    let b = length-reverse c.args.scripts.items in (
      [],
      [],
      sym (reverse-reverse c.args.sessions.items) ∙ sym (ap reverse c.into_reversed-sessions.ensures.items),
      sym (reverse-reverse c.args.scripts.items) ∙ sym (ap reverse c.into_reversed-scripts.ensures.items),
      ap (map script_session) none_yet,
      ap (map script_steps) none_yet,
      ap (map script_report) none_yet,
      subst (Each (IsBegun g.T.Report.drafted)) (sym none_yet) tt,
      ap length c.into_reversed-sessions.ensures.items ∙ a ∙ c.requires ∙ sym b ∙ sym (ap length c.into_reversed-scripts.ensures.items),
      omega (arith, c.into_reversed-scripts.ensures.len, c.in_ok-jobs.ensures.len, c.in_ok-jobs.ensures.capacity),
    )

pub loop-script-preserved : goal.loop-script-preserved
loop-script-preserved g c =
    let inv = c.loop-script.invariant in
    let past : List SessionData = inv.0 in
    let done : List (BoxedScript g.row.F.Denot g.row.T.Denot) = inv.1 in
    let script : BoxedScript g.row.F.Denot g.row.T.Denot = c.in-Some.script in
    let session : SessionData = c.in-Some-pop.session in
    let one : SessionScript g.row.F.Denot g.row.T.Denot g.row.T-Draft.Denot = c.in_ok-session_script.field-0 in
    let popped : c.loop-script.scripts.items ≡ c.pop.new.self.items ++ script ∷ [] = search rules in
    let popped' : c.loop-script.sessions.items ≡ c.pop-in-Some.new.self.items ++ session ∷ [] = search rules in
    let less : vec_len c.pop.new.self + 1 ≡ vec_len c.loop-script.scripts = search rules in
    let pushed = c.push_reserved.ensures.len in
    let room = c.push_reserved.ensures.capacity in
    let more = length-append c.pop.new.self.items (script ∷ []) in
    let more' = length-append c.pop-in-Some.new.self.items (session ∷ []) in
    let same = inv.8 in
    let e = ap length popped in
    let e' = ap length popped' in (
      past ++ session ∷ [],
      done ++ script ∷ [],
      next_step c.args.sessions.items past c.loop-script.sessions.items c.pop-in-Some.new.self.items session inv.2 popped',
      next_step c.args.scripts.items done c.loop-script.scripts.items c.pop.new.self.items script inv.3 popped,
      map_snoc script_session c.loop-script.jobs.items _ one past session c.push_reserved.ensures.items inv.4 c.in_ok-session_script.ensures.0,
      map_snoc script_steps c.loop-script.jobs.items _ one (map steps_of done) script.steps c.push_reserved.ensures.items inv.5 c.in_ok-session_script.ensures.1 ∙ sym (map_snoc steps_of done _ script (map steps_of done) script.steps (λ i. done ++ script ∷ []) (λ i. map steps_of done) (λ i. script.steps)),
      map_snoc script_report c.loop-script.jobs.items _ one (map report_of done) script.report c.push_reserved.ensures.items inv.6 c.in_ok-session_script.ensures.2 ∙ sym (map_snoc report_of done _ script (map report_of done) script.report (λ i. done ++ script ∷ []) (λ i. map report_of done) (λ i. script.report)),
      subst (Each (IsBegun g.T.Report.drafted)) (sym c.push_reserved.ensures.items) (each_snoc (IsBegun g.T.Report.drafted) c.loop-script.jobs.items one inv.7 c.in_ok-session_script.ensures.3),
      omega arith,
      omega arith,
    )
