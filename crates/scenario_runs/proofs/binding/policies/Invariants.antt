use Rattle.scenario_runs.proofs.CommonNames.{◌≡◌, take}
use Rattle.scenario_runs.proofs.binding.policies.Given as goal

abbrev pub invariant-loop-policy : goal.invariant-loop-policy
invariant-loop-policy l = l.policies.items ≡ take l.policy-index l.installed
