use Rattle.scenario_runs.proofs.CommonNames.{◌≡◌, length, take}
use Rattle.scenario_runs.proofs.binding.obey.Given as goal

abbrev pub invariant-loop-i : goal.invariant-loop-i
invariant-loop-i g l = (length l.handlers ≡ length l.policies) × (take l.i l.handlers ≡ take l.i l.policies)
