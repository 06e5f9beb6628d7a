use Rattle.scenario_runs.proofs.CommonNames.{◌≡◌, ◌≤◌, ◌++◌, map, length, drop, into_iter_items, asked, with_policies, policies_in}
use Rattle.scenario_runs.proofs.binding.bound.Given as goal

abbrev pub invariant-loop-bare_step : goal.invariant-loop-bare_step
invariant-loop-bare_step g l = let left = with_policies (drop l.bare_step-index l.bare_steps) (into_iter_items l.rest) in record {
  steps : map asked l.steps.items ++ left ≡ l.scenario.steps;
  each : policies_in left ≡ into_iter_items l.rest;
  count : length l.steps.items ≡ l.bare_step-index;
  within : l.bare_step-index ≤ length l.bare_steps;
}
