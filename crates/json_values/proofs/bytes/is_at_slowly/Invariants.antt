use Rattle.json_values.proofs.CommonNames.{◌≡◌, ◌-◌, ◌≤◌, take, drop}
use Rattle.json_values.proofs.bytes.is_at_slowly.Given as goal

abbrev pub invariant-loop-at : goal.invariant-loop-at
invariant-loop-at l = (l.at ≤ l.count) × (take l.at (drop l.from l.bytes) ≡ take l.at l.front)

abbrev pub decreases-loop-at : goal.decreases-loop-at
decreases-loop-at l = l.count - l.at
