use Rattle.scenario_runs.proofs.CommonNames.{◌≡◌, ◌++◌, map, drop, into_iter_items, replies, with_policies, policies_in, answered, answers_of, paired}
use Rattle.scenario_runs.proofs.running.replies_of.Given as goal

abbrev pub invariant-loop-bare_step : goal.invariant-loop-bare_step
invariant-loop-bare_step g l = let left = with_policies (drop l.bare_step-index l.bare_steps) (into_iter_items l.rest) in record {
  answers : map answered l.replies.items ++ paired left (replies left l.host) ≡ answers_of l.scenario;
  each : policies_in left ≡ into_iter_items l.rest;
}
