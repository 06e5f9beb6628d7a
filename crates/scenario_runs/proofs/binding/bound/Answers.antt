use Rattle.scenario_runs.proofs.CommonNames.{◌≡◌, ◌+◌, ◌∙◌, length, drop, Some, None, ap, sym, arith, into_iter_items, with_policies, policies_in, first_policy, with_installed}
use Rattle.scenario_runs.proofs.BindLemmas.{all_bound, bound_there, each_next, with_policies_next, first_before, one_bound, one_longer}
use Rattle.scenario_runs.proofs.binding.bound.Goals as goal

pub loop-bare_step-init : goal.loop-bare_step-init
loop-bare_step-init g c =
    let handlers = c.into_iter-rest.ensures.rest ∙ c.requires in
    let steps = ap (with_policies c.bare_steps-bare_steps.result.now) handlers ∙ c.bare_steps-bare_steps.ensures.steps in
    let none = c.in_ok-steps.ensures.items in
    record {
      steps = rw none steps;
      each = ap policies_in steps ∙ sym handlers;
      count = ap length none;
      within = omega arith;
    }

pub loop-bare_step-preserved : goal.loop-bare_step-preserved
loop-bare_step-preserved g c =
    let at = c.loop-bare_step in
    let ss = c.bare_steps-bare_steps.result.now in
    let x = c.bare_step-item.result in
    let had = into_iter_items at.rest in
    let left = into_iter_items c.step_with_handler.new.handlers in
    let more = c.loop-bare_step-test.true in
    let here = sym c.bare_step-item.is in
    let bound = bound_there x.1 had left _ _ c.step_with_handler.ensures (first_before ss at.bare_step-index x had left more here at.invariant.each) in
    let same : Some c.in-Some.step ≡ Some (with_installed (first_policy had) x.1) = sym c.in-Some.is ∙ bound.1 in
    let pushed = c.in_ok-push.ensures.items in
    record {
      steps = one_bound at.steps.items c.push.new.self.items x.0 c.in-Some.step (with_installed (first_policy had) x.1) (with_policies (drop at.bare_step-index ss) had) (with_policies (drop (at.bare_step-index + 1) ss) left) c.args.scenario.now.steps
          (cc) pushed (with_policies_next ss at.bare_step-index x had left more here bound.0) at.invariant.steps;
      each = each_next ss at.bare_step-index x had left more here at.invariant.each bound.0;
      count = one_longer at.steps.items c.push.new.self.items (x.0, c.in-Some.step) at.bare_step-index pushed at.invariant.count;
      within = omega (arith, more);
    }

pub unreachable-requires : goal.unreachable-requires
unreachable-requires g c =
    let at = c.loop-bare_step in
    let had = into_iter_items at.rest in
    let x = c.bare_step-item.result in
    let bound = bound_there x.1 had _ _ _ c.step_with_handler.ensures (first_before c.bare_steps-bare_steps.result.now at.bare_step-index x had had c.loop-bare_step-test.true (sym c.bare_step-item.is) at.invariant.each) in
    let none : None ≡ Some (with_installed (first_policy had) x.1) = sym c.in_default.is ∙ bound.1 in
    absurd (cc)

pub returns-clause-ok : goal.returns-clause-ok
returns-clause-ok g c =
    all_bound c.loop-bare_step.steps.items c.bare_steps-bare_steps.result.now c.loop-bare_step.bare_step-index (into_iter_items c.loop-bare_step.rest) c.args.scenario.now.steps
    (let done = c.loop-bare_step-test.false in omega (arith, done)) c.loop-bare_step.invariant.steps

pub returns-clause-few : goal.returns-clause-few
returns-clause-few g c =
    let count = c.loop-bare_step.invariant.count in
    let within = c.loop-bare_step.invariant.within in
    let few = c.bare_steps-bare_steps.ensures.bound in
    omega (arith, count, within, few)
