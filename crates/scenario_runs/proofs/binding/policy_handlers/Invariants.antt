use Rattle.scenario_runs.proofs.CommonNames.{◌≡◌, take}
use Rattle.scenario_runs.proofs.binding.policy_handlers.Given as goal

abbrev pub invariant-loop-policy : goal.invariant-loop-policy
invariant-loop-policy l = l.handlers.items ≡ take l.policy-index l.policies
