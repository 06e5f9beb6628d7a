-- The names that several proofs of this crate use, from one place.
pub use Rattle.signals.specs.Laws.{IsLowest, IsSignal, MembersAfter}
pub use Rattle.signals.specs.Names.{by_name, named, signal_name}
pub use Rattle.signals.specs.Sets.{bit, has, joined, lowest, set_text, without}
pub use Rattle.std.proofs.Common.{Bool, List, [], ap, append_assoc, arith, bit_and, bit_or, codes, false, inl, inr, map, max, refl, rules, suc, sym, true, w32, zero, ℕ, ◌%◌, ◌++◌, ◌+◌, ◌-◌, ◌<◌, ◌^◌}
pub use Rattle.std.proofs.Common.{◌∙◌, ◌∷◌, ◌≡◌, ◌≤◌}
pub use Rattle.std.proofs.Math.Pow.{pow-lt}
pub use Rattle.std.proofs.Output.{has_written_append, has_written_of_eq}
pub use Rattle.std.proofs.lemmas.Bool.{cases_Bool, cases_lt, eq-eqb, ne_eqb}
pub use Rattle.std.proofs.lemmas.Bool.Decides.{nat_tests}
pub use Rattle.std.proofs.lemmas.Grind.{flat_map-append}
pub use Rattle.std.proofs.lemmas.Nat.{and_le_l, one_shl, or_lt, pow_pos, xor_lt}
pub use Rattle.std.proofs.lemmas.Nat.Bits.{and_pow, bit_at-lt, bit_at-pow_other, bit_at-pow_same, bit_at-trailing_zeros, bit_at_above, bit_at_and, bit_at_not, bit_at_or, bit_at_xor}
pub use Rattle.std.proofs.lemmas.Nat.Bits.{same_from_bits_below}
pub use Rattle.std.specs.Cmp.Lexicographic.{pointwise}
pub use Rattle.std.specs.Fmt.{HasWritten, IsPlainFormatter}
pub use Rattle.std.specs.Int.{bit_at, trailing_zeros}
pub use Rattle.std.specs.List.{flat_map, join_with_byte, range_with_len}
pub use Rattle.std.specs.Prelude.{Err, IfNone, IfSome, None, Ok, OkIff, Option, Result, Some, decimal, filter, find, nat_eq, not, ◌&&◌, ◌==◌, ◌||◌}
pub use Rattle.std.specs.Result.{result_ok}
