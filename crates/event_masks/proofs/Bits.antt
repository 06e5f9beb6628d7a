-- Sets of flags as numbers.
use Rattle.std.proofs.Common.{◌≡◌, ℕ, ◌-◌, ◌^◌, ◌<◌, ◌≤◌, arith, refl, bit_and, bit_or, w32}
use Rattle.std.specs.Prelude.{◌↔◌, Option, IfSome, IsSome}
use Rattle.std.specs.Int.RustNames.{bit_xor}
use Rattle.std.specs.Int.Bits.{or_add_and}
use Rattle.std.proofs.lemmas.Bool.Decides.{nat_tests}
use Rattle.std.proofs.lemmas.Nat.{or_lt, xor_lt, and_le_l}
use Rattle.std.proofs.lemmas.Nat.Bits.{bit_at_and, bit_at_or, bit_at_xor, bit_at_not, bit_at-lt, same_from_bits_below}
use Rattle.bitflags.specs.Sets.{known_bits, known_from}
use Rattle.event_masks.specs.declared.EventMask.{EventMask}
use Rattle.event_masks.specs.Exits.{all_events}
use Rattle.event_masks.specs.Names.{event_table}
use Rattle.event_masks.specs.Reading.{mask_of_bits}

-- a difference, computed in two ways
pub difference-is : (a b : ℕ) → a < 2 ^ 32 → b < 2 ^ 32 → bit_and a (2 ^ 32 - 1 - b) ≡ bit_xor (bit_or a b) b
difference-is a b narrow wide =
    let below : bit_and a (2 ^ 32 - 1 - b) ≤ a = and_le_l a (2 ^ 32 - 1 - b) in
    same_from_bits_below 32 (bit_and a (2 ^ 32 - 1 - b)) (bit_xor (bit_or a b) b) (omega arith) (xor_lt 32 (bit_or a b) b (or_lt 32 a b narrow wide) wide)
    (λ i within. grind (arith, bit_at_not w32 b i wide within, bit_at_and, bit_at_xor, bit_at_or, bit_at-lt))

-- the bits of all events
events-are : known_bits event_table ≡ all_events
unfolding known_from
events-are = refl

-- a mask with only known bits, as the flags' own test says it
pub known-is : (bits : ℕ) (o : Option EventMask) → IfSome o (λ f. f.0 ≡ bits) → IsSome o ↔ (bit_and bits (known_bits event_table) ≡ bits) → o ≡ mask_of_bits bits
known-is bits o value known = grind (arith, nat_tests, or_add_and bits 63, events-are)
