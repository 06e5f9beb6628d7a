-- What a hasher of numbers computes.
use Rattle.std.specs.Prelude.{ℕ, ◌*◌, ◌%◌, ◌^◌, ◌==◌, List, [], ◌∷◌, length, slice_index, if◌then◌else◌}
use Rattle.std.specs.Int.{w32, rotate_left, from_le_bytes}
use Rattle.lwp_table.specs.declared.hasher.NumberHasher.{NumberHasher}

-- the state after the bytes of a number
abbrev pub written : NumberHasher → List ℕ → NumberHasher
written h bs = record { number = if length bs == 4 then from_le_bytes w32 (slice_index bs 0 ∷ slice_index bs 1 ∷ slice_index bs 2 ∷ slice_index bs 3 ∷ []) else h.number }

-- the hash of the number
abbrev pub finished : NumberHasher → ℕ
finished h = rotate_left w32 ((h.number * 0x9E37_79B1) % 2 ^ 32) 8
