-- What is left of a set shares nothing with what was taken out.
use Rattle.trace_rows.proofs.CommonNames.{◌≡◌, ℕ, arith, ap, bit_and, without}
use Rattle.std.specs.Int.{bit_at}
use Rattle.std.proofs.lemmas.Nat.Bits.{bit_at_and, bit_at_or, bit_at_xor, bit_at-lt, bit_at-zero, same_from_bits}

pub without_apart : (a b : ℕ) → bit_and (without a b) b ≡ 0
without_apart a b = same_from_bits _ _ (λ i. simp (bit_at_and, bit_at_or, bit_at_xor, bit_at-zero) (omega arith))

-- a set that shares nothing with b still shares nothing once more was taken out
pub without_less : (a b c : ℕ) → bit_and a b ≡ 0 → bit_and (without a c) b ≡ 0
without_less a b c none = same_from_bits _ _ (λ i. let apart = ap (λ x. bit_at x i) none in simp (bit_at_and, bit_at_or, bit_at_xor, bit_at-zero) (omega (arith, simp (bit_at_and, bit_at-zero) at apart, bit_at-lt a i, bit_at-lt b i, bit_at-lt c i)))

-- a set that nothing was taken out of
pub without_none : (a : ℕ) → without a 0 ≡ a
without_none a = same_from_bits _ _ (λ i. simp (bit_at_or, bit_at_xor, bit_at-zero) (omega (arith, bit_at-lt a i)))

-- what is taken out of no signals
pub none_without : (a : ℕ) → without 0 a ≡ 0
none_without a = same_from_bits _ _ (λ i. simp (bit_at_or, bit_at_xor, bit_at-zero) (omega (arith, bit_at-lt a i)))
