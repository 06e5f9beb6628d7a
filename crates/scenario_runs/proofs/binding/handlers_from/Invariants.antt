use Rattle.scenario_runs.proofs.CommonNames.{◌≡◌, take}
use Rattle.scenario_runs.proofs.binding.handlers_from.Given as goal

abbrev pub invariant-loop-policy : goal.invariant-loop-policy
invariant-loop-policy g l = l.handlers.items ≡ take l.policy-index l.policies
