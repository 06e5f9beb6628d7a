use Rattle.visibility.proofs.CommonNames.{◌≡◌, length, take}
use Rattle.visibility.proofs.equality.same_pairs.Given as goal

abbrev pub invariant-loop-i : goal.invariant-loop-i
invariant-loop-i l = (length l.mine ≡ length l.others) × (take l.i l.mine ≡ take l.i l.others)
