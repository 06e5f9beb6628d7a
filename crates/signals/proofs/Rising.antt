-- A search over rising numbers, one number further.
use Rattle.signals.proofs.CommonNames.{nat_tests, ◌≡◌, ℕ, zero, suc, ◌+◌, ◌-◌, ◌<◌, Bool, true, false, arith, refl, Some, find, range_with_len}

-- a number that doesn't pass is passed over
pub find-over : (p : ℕ → Bool) (n left : ℕ) → 0 < left → p n ≡ false → find p (range_with_len n left) ≡ find p (range_with_len (n + 1) (left - 1))
find-over p n zero some h = absurd (omega arith)
find-over p n (suc left) some h = grind (arith, nat_tests)

-- one that passes is the answer
pub find-here : (p : ℕ → Bool) (n left : ℕ) → 0 < left → p n ≡ true → find p (range_with_len n left) ≡ Some n
find-here p n zero some h = absurd (omega arith)
find-here p n (suc left) some h = rw h refl
