-- The first difference of two lists of lines.
use Rattle.std.specs.Prelude.{ℕ, ◌≡◌, ◌≢◌, ◌+◌, List, take, option_map, slice_get}
use Rattle.byte_lines.specs.declared.comparing.Difference.{Difference}

-- the lines before are the same, and the next ones are those of d; they differ, or one of the lists has ended there
pub record IsFirstDifference (expected got : List (List ℕ)) (d : Difference) : Type 0 where
  pub before : ℕ
  pub number : d.line ≡ before + 1
  pub same : take before expected ≡ take before got
  pub expected_there : option_map (λ l. l.now) d.expected ≡ slice_get expected before
  pub got_there : option_map (λ l. l.now) d.got ≡ slice_get got before
  pub differ : slice_get expected before ≢ slice_get got before
