use Rattle.std.proofs.Common.{◌≡◌, ℕ, ◌<◌, List, ap, subst, ◌∙◌, arith, rules}
use Rattle.scenario.proofs.CommonNames.{vec_len, Machine, empty, PlainStep, RefusesFor, Ran, replies_in}
use Rattle.scenario.proofs.TranscriptLemmas.{told_in_all, few, few_each, ran_of, shows_each}
use Rattle.scenario.proofs.threading.transcripts_of.Goals as goal

pub run_sessions-requires-after_bounds : goal.run_sessions-requires-after_bounds
run_sessions-requires-after_bounds g c =
    let small = few_each c.in_ok-scripts-2.scripts.items c.args.scenario.now (c.in_ok-scripts-2.ensures.scripts ∙ c.in_ok-scripts.ensures.scripts) c.in_ok-scripts.ensures.few in
    search (rules, small)

pub unreachable-requires : goal.unreachable-requires
unreachable-requires g c =
    let most = few c.in_ok-scripts-2.scripts.items c.args.scenario.now (c.in_ok-scripts-2.ensures.scripts ∙ c.in_ok-scripts.ensures.scripts) in
    let count = c.in_ok-scripts-2.scripts.ok.0 in
    let many : 64 < vec_len c.in_ok-scripts-2.scripts = subst (RefusesFor (vec_len c.in_ok-scripts-2.scripts)) c.in-Err-TooMany.field-0-is c.in-Err-TooMany.ensures.refuses in
    omega (arith, many, most, count)

pub returns-in-Ok-clause-told : goal.returns-in-Ok-clause-told
returns-in-Ok-clause-told g c = λ made.
    let from : c.in_ok-host.host ≡ empty c.args.scenario.now.settings = c.in_ok-host.ensures ∙ ap (λ p. empty p.settings) c.scenario.view_is in
    let e = c.in-Ok.ensures in
    let given = c.in_ok-scripts-2.ensures.scripts ∙ c.in_ok-scripts.ensures.scripts in
    let ran = ran_of replies_in _ c.in-Ok._host c.in_ok-scripts-2.scripts c.in-Ok._calls c.in-Ok.transcripts.items e.legal e.host e.entries e.transcripts e.own in
    told_in_all replies_in c.args.scenario.now c.in-Ok._host c.in-Ok.transcripts.items c.in_ok-scripts.ensures.users
    (subst (λ (z : Machine × List (ℕ × List PlainStep)). Ran replies_in z.0 z.1 c.in-Ok._host c.in-Ok.transcripts.items) (λ i. (from i, given i)) ran) made

pub returns-in-Ok-clause-shows : goal.returns-in-Ok-clause-shows
returns-in-Ok-clause-shows g c =
    let e = c.in-Ok.ensures in
    shows_each c.args.options.now c.in_ok-scripts-2.scripts.items c.in-Ok.transcripts.items e.transcripts.0 e.reports c.in_ok-scripts-2.ensures.reports
