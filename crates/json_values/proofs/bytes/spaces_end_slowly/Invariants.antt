use Rattle.json_values.proofs.CommonNames.{◌≡◌, ◌-◌, ◌≤◌, length, drop, between, lex}
use Rattle.json_values.proofs.bytes.spaces_end_slowly.Given as goal

abbrev pub invariant-loop-at : goal.invariant-loop-at
invariant-loop-at l = (lex between (drop l.at l.bytes) ≡ lex between (drop l.from l.bytes)) × (l.from ≤ l.at) × (l.at ≤ length l.bytes)

abbrev pub decreases-loop-at : goal.decreases-loop-at
decreases-loop-at l = length l.bytes - l.at
