use Rattle.std.proofs.Common.{◌≡◌, ℕ, ◌<◌, List, ap, subst, ◌∙◌, arith, rules}
use Rattle.std.specs.Prelude.{Vec}
use Rattle.scenario.proofs.CommonNames.{vec_len, Global, Machine, Reply, empty, PlainStep, RefusesFor, Ran}
use Rattle.scenario.proofs.TranscriptLemmas.{told_in_all, users_in_all, few, few_each, ran_of}
use Rattle.scenario.proofs.replying.transcripts_of.Goals as goal

-- the replies that a transcript has
abbrev items : Vec Reply Global → List Reply
items v = v.items

pub run_sessions-requires-after_bounds : goal.run_sessions-requires-after_bounds
run_sessions-requires-after_bounds g c =
    let small = few_each c.in_ok-scripts-2.scripts.items c.args.scenario.now (c.in_ok-scripts-2.ensures ∙ c.in_ok-scripts.ensures.scripts) c.in_ok-scripts.ensures.few in
    search (rules, small)

pub unreachable-requires : goal.unreachable-requires
unreachable-requires g c =
    let most = few c.in_ok-scripts-2.scripts.items c.args.scenario.now (c.in_ok-scripts-2.ensures ∙ c.in_ok-scripts.ensures.scripts) in
    let count = c.in_ok-scripts-2.scripts.ok.0 in
    let many : 64 < vec_len c.in_ok-scripts-2.scripts = subst (RefusesFor (vec_len c.in_ok-scripts-2.scripts)) c.in-Err-TooMany.field-0-is c.in-Err-TooMany.ensures.refuses in
    omega (arith, many, most, count)

pub returns-in-Ok-clause-told : goal.returns-in-Ok-clause-told
returns-in-Ok-clause-told g c = λ made.
    let plan = c.args.scenario.now in
    let from : c.in_ok-host.host ≡ empty plan.settings = c.in_ok-host.ensures ∙ ap (λ p. empty p.settings) c.scenario.view_is in
    let e = c.in-Ok.ensures in
    let given = c.in_ok-scripts-2.ensures ∙ c.in_ok-scripts.ensures.scripts in
    let ran = ran_of items _ c.in-Ok._host c.in_ok-scripts-2.scripts c.in-Ok._calls c.in-Ok.transcripts.items e.legal e.host e.entries e.transcripts e.own in
    let all = subst (λ (z : Machine × List (ℕ × List PlainStep)). Ran items z.0 z.1 c.in-Ok._host c.in-Ok.transcripts.items) (λ i. (from i, given i)) ran in
    (told_in_all items plan c.in-Ok._host c.in-Ok.transcripts.items c.in_ok-scripts.ensures.users all made, users_in_all items plan c.in-Ok._host c.in-Ok.transcripts.items c.in_ok-scripts.ensures.users all made)
