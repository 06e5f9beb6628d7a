use Rattle.std.proofs.Common.{◌≡◌, ◌-◌, [], map}
use Rattle.scenario.proofs.CommonNames.{rising, boxed_script}
use Rattle.scenario.proofs.threading.empty_scripts.Given as goal

abbrev pub invariant-loop-number : goal.invariant-loop-number
invariant-loop-number g l = map boxed_script l.scripts.items ≡ map (λ u. (u, [])) (rising (l.number - 1001) 1001)
