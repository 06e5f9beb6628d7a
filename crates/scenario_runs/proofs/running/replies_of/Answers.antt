use Rattle.scenario_runs.proofs.CommonNames.{◌+◌, ◌++◌, ◌∙◌, List, [], map, drop, ap, sym, append-nil, arith, into_iter_items, empty, UserStep, replies, with_policies, policies_in, first_policy}
use Rattle.scenario_runs.proofs.CommonNames.{with_installed, answered, answers_of, paired}
use Rattle.scenario_runs.proofs.{BindLemmas.answered_there, BindLemmas.each_next, BindLemmas.with_policies_next, BindLemmas.first_before, RunLemmas.answers_next, RunLemmas.answers_more, RunLemmas.none_left}
use Rattle.scenario_runs.proofs.running.replies_of.Goals as goal

pub loop-bare_step-init : goal.loop-bare_step-init
loop-bare_step-init g c =
    let handlers = c.into_iter-rest.ensures.rest ∙ c.requires in
    let steps = ap (with_policies c.bare_steps-bare_steps.result.now) handlers ∙ c.bare_steps-bare_steps.ensures.steps in
    let host = c.new-host.ensures ∙ ap (λ p. empty p.settings) c.scenario.view_is in
    record {
      answers = rw (host, c.in_ok-replies.ensures.items) (ap (λ (xs : List UserStep). paired xs (replies xs (empty c.args.scenario.now.settings))) steps);
      each = ap policies_in steps ∙ sym handlers;
    }

pub unreachable-requires : goal.unreachable-requires
unreachable-requires g c =
    let at = c.loop-bare_step in
    let had = into_iter_items at.rest in
    let x = c.bare_step-item.result in
    let before = first_before c.bare_steps-bare_steps.result.now at.bare_step-index x had had c.loop-bare_step-test.true (sym c.bare_step-item.is) at.invariant.each in
    (answered_there x.0 x.1 had _ _ at.host c.reply_of.new.host _ c.in_default.ensures before).1

pub loop-bare_step-preserved : goal.loop-bare_step-preserved
loop-bare_step-preserved g c =
    let at = c.loop-bare_step in
    let ss = c.bare_steps-bare_steps.result.now in
    let x = c.bare_step-item.result in
    let had = into_iter_items at.rest in
    let left = into_iter_items c.reply_of.new.handlers in
    let more = c.loop-bare_step-test.true in
    let here = sym c.bare_step-item.is in
    let step = with_installed (first_policy had) x.1 in
    let made = answered_there x.0 x.1 had left _ at.host c.reply_of.new.host _ c.in-Some.ensures (first_before ss at.bare_step-index x had left more here at.invariant.each) in
    let rest = with_policies (drop (at.bare_step-index + 1) ss) left in
    let next = answers_next x.0 step c.in-Some.reply (with_policies (drop at.bare_step-index ss) had) rest at.host c.reply_of.new.host (with_policies_next ss at.bare_step-index x had left more here made.0)
    (sym c.is_memory.ensures ∙ c.if-is_memory.false) made.1 in
    record {
      answers = answers_more at.replies.items (x.0, c.in-Some.reply) _ (paired rest (replies rest c.reply_of.new.host)) _ _ c.in_ok-push.ensures.items next at.invariant.answers;
      each = each_next ss at.bare_step-index x had left more here at.invariant.each made.0;
    }

pub returns-clause-ok : goal.returns-clause-ok
returns-clause-ok g c =
    let at = c.loop-bare_step in
    let none = none_left c.bare_steps-bare_steps.result.now at.bare_step-index (into_iter_items at.rest) at.host (let done = c.loop-bare_step-test.false in omega (arith, done)) in
    let made = map answered at.replies.items in
    sym (append-nil made) ∙ ap (λ xs. made ++ xs) (sym none) ∙ at.invariant.answers
