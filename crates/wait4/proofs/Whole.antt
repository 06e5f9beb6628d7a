-- -1 as a signed number of 64 bits.
use Rattle.wait4.proofs.CommonNames.{◌≡◌, ◌≢◌, zero, ℕ, ℤ, negsuc, w64, SFits, to_z, of_z, sym, ap, ◌∙◌, to_z-of_z}

-- the bits of -1
abbrev pub all_ones : ℕ
all_ones = 18446744073709551615

module _ (z : ℤ) (fits : SFits w64 z) where
  pub is_minus_one : of_z w64 z ≡ all_ones → z ≡ negsuc zero
  is_minus_one bits = sym (to_z-of_z w64 z fits) ∙ ap (to_z w64) bits

  pub is_another : of_z w64 z ≢ all_ones → z ≢ negsuc zero
  is_another other same = other (ap (of_z w64) same)
