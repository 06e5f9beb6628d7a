use Rattle.json_values.proofs.CommonNames.{◌≡◌, ◌-◌, ◌≤◌, take, drop, AllDigits, digits_value}
use Rattle.json_values.proofs.words.digits.Given as goal

abbrev pub invariant-loop-count : goal.invariant-loop-count
invariant-loop-count l =
    (l.count ≤ l.most) × AllDigits 10 (take l.count (drop l.from l.bytes)) × (digits_value 10 (take l.count (drop l.from l.bytes)) ≡ l.value)

abbrev pub decreases-loop-count : goal.decreases-loop-count
decreases-loop-count l = l.most - l.count
