use Rattle.scenario_runs.proofs.CommonNames.{◌+◌, ◌++◌, ◌∷◌, ◌∙◌, List, [], drop, refl, ap, sym, string_bytes, append-nil, arith, into_iter_items, empty, UserStep, replies, with_policies, policies_in, first_policy}
use Rattle.scenario_runs.proofs.CommonNames.{with_installed, answered, answers_of, paired}
use Rattle.scenario_runs.proofs.LineLemmas.{counted_start, counted_more, counted_few, counted_number, shown_after, shown_none, shown_whole, text_next}
use Rattle.scenario_runs.proofs.{BindLemmas.answered_there, BindLemmas.each_next, BindLemmas.with_policies_next, BindLemmas.first_before, RunLemmas.answers_next, RunLemmas.none_left}
use Rattle.scenario_runs.proofs.running.text_of.Goals as goal

pub loop-bare_step-init : goal.loop-bare_step-init
loop-bare_step-init g c =
    let plan = c.args.scenario.now in
    let options = c.args.options.now in
    let handlers = c.into_iter-rest.ensures.rest ∙ c.requires in
    let steps = ap (with_policies c.bare_steps-bare_steps.result.now) handlers ∙ c.bare_steps-bare_steps.ensures.steps in
    let host = c.new-host.ensures ∙ ap (λ p. empty p.settings) c.scenario.view_is in
    record {
      before = [];
      few = refl;
      counted = counted_start;
      text = rw (host, c.in_ok-text.ensures.bytes) (ap (λ (xs : List UserStep). shown_after options.style options.user [] (paired xs (replies xs (empty plan.settings)))) steps
          ∙ shown_whole options.style options.user (answers_of plan));
      each = ap policies_in steps ∙ sym handlers;
    }

pub count_reply-number-requires : goal.count_reply-number-requires
count_reply-number-requires g c = λ k.
    let few = counted_few c.loop-bare_step.made c.loop-bare_step.invariant.before c.loop-bare_step.invariant.counted k in
    let place = c.loop-bare_step.invariant.few in omega arith

pub loop-bare_step-preserved : goal.loop-bare_step-preserved
loop-bare_step-preserved g c =
    let at = c.loop-bare_step in
    let options = c.args.options.now in
    let ss = c.bare_steps-bare_steps.result.now in
    let x = c.bare_step-item.result in
    let had = into_iter_items at.rest in
    let left = into_iter_items c.reply_of.new.handlers in
    let more = c.loop-bare_step-test.true in
    let here = sym c.bare_step-item.is in
    let step = with_installed (first_policy had) x.1 in
    let made = answered_there x.0 x.1 had left _ at.host c.reply_of.new.host _ c.in-Some.ensures (first_before ss at.bare_step-index x had left more here at.invariant.each) in
    let range = c.count_reply-number.ensures.range in
    let before = at.invariant.before in
    let rest = with_policies (drop (at.bare_step-index + 1) ss) left in
    let next = answers_next x.0 step c.in-Some.reply (with_policies (drop at.bare_step-index ss) had) rest at.host c.reply_of.new.host (with_policies_next ss at.bare_step-index x had left more here made.0)
    (sym c.is_memory.ensures ∙ c.if-is_memory.false) made.1 in
    record {
      before = x.0 ∷ before;
      few = let few = at.invariant.few in omega arith;
      counted = rw (c.count_reply-number.ensures.after, c.count_reply-number.ensures.number) (counted_more at.made before x.0 range.0 range.1 at.invariant.counted);
      text = text_next options.style options.user (answered (x.0, c.in-Some.reply)) (paired rest (replies rest c.reply_of.new.host)) before c.count_reply-number.result _ _ _
          (c.count_reply-number.ensures.number ∙ ap (λ n. n + 1) (counted_number at.made before x.0 range.0 range.1 at.invariant.counted))
          c.in_ok-push_shown_by.ensures
          (ap (λ xs. string_bytes at.text ++ shown_after options.style options.user before xs) (sym next) ∙ at.invariant.text);
      each = each_next ss at.bare_step-index x had left more here at.invariant.each made.0;
    }

pub unreachable-requires : goal.unreachable-requires
unreachable-requires g c =
    let at = c.loop-bare_step in
    let had = into_iter_items at.rest in
    let x = c.bare_step-item.result in
    let before = first_before c.bare_steps-bare_steps.result.now at.bare_step-index x had had c.loop-bare_step-test.true (sym c.bare_step-item.is) at.invariant.each in
    (answered_there x.0 x.1 had _ _ at.host c.reply_of.new.host _ c.in_default.ensures before).1

pub returns-clause-ok : goal.returns-clause-ok
returns-clause-ok g c =
    let at = c.loop-bare_step in
    let options = c.args.options.now in
    let none = none_left c.bare_steps-bare_steps.result.now at.bare_step-index (into_iter_items at.rest) at.host (let done = c.loop-bare_step-test.false in omega (arith, done)) in
    let text = string_bytes at.text in
    let nothing = shown_none options.style options.user at.invariant.before in
    sym (append-nil text) ∙ ap (λ xs. text ++ xs) (sym nothing)
    ∙ ap (λ xs. text ++ shown_after options.style options.user at.invariant.before xs) (sym none) ∙ at.invariant.text
