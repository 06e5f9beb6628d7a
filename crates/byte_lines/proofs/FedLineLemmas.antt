-- The first line of a text, and the lines after it.
use Rattle.std.proofs.Common.{◌≡◌, ◌≤◌, ◌==◌, ℕ, ◌+◌, Bool, true, false, List, [], ◌∷◌, length, take, drop, min, Some, cond, refl, add-one, ◌∙◌, ◌-◌, arith, length-drop}
use Rattle.{std.{proofs.lemmas.Bool.Decides.nat_tests, specs.{Prelude.slice_get, List.position_or_len}}, byte_lines.specs.FedLines.{in_first, lines_in, line_length, line_there}}

abbrev is_feed : ℕ → Bool
is_feed byte = byte == 10

-- the first line ends with the first line feed, or with the text
pub line_length-min : (text : List ℕ) → line_length text ≡ min (position_or_len is_feed text + 1) (length text)
line_length-min [] = refl
line_length-min (byte ∷ text) = let more = line_length-min text in grind (arith, nat_tests, more)

-- the rest of a text after the first line
pub rest_shorter : (text : List ℕ) → length (drop (line_length text) text) ≤ length text - 1
rest_shorter text = omega (arith, line_length-min text, length-drop (line_length text) text)

head_in_first : (byte : ℕ) (lines : List (List ℕ)) (line : List ℕ) → slice_get lines 0 ≡ line_there line → slice_get (in_first byte lines) 0 ≡ Some (byte ∷ line)
head_in_first byte lines line e = grind arith

tail_in_first : (byte : ℕ) (lines : List (List ℕ)) → drop 1 (in_first byte lines) ≡ drop 1 lines
tail_in_first byte lines = grind arith

-- the first of a text's lines, and the others
pub first_of_lines : (text : List ℕ) → slice_get (lines_in text) 0 ≡ line_there (take (line_length text) text)
first_of_lines [] = refl
first_of_lines (byte ∷ text) =
    let more = head_in_first byte (lines_in text) (take (line_length text) text) (first_of_lines text) in
    elim (byte == 10) as (λ b. slice_get (cond b ((byte ∷ []) ∷ lines_in text) (in_first byte (lines_in text))) 0 ≡ line_there (take (cond b 1 (line_length text + 1)) (byte ∷ text))) [
      | true ↦ refl
      | false ↦ rw add-one more
    ]

pub others_of_lines : (text : List ℕ) → drop 1 (lines_in text) ≡ lines_in (drop (line_length text) text)
others_of_lines [] = refl
others_of_lines (byte ∷ text) =
    let more = tail_in_first byte (lines_in text) ∙ others_of_lines text in
    elim (byte == 10) as (λ b. drop 1 (cond b ((byte ∷ []) ∷ lines_in text) (in_first byte (lines_in text))) ≡ lines_in (drop (cond b 1 (line_length text + 1)) (byte ∷ text))) [
      | true ↦ refl
      | false ↦ rw add-one more
    ]

-- a text's first line, and what follows it
pub ruleset first_line = (line_length-min, rest_shorter, first_of_lines, others_of_lines, nat_tests)
