-- The lines of a text.
use Rattle.std.specs.Prelude.{ℕ, ◌+◌, ◌==◌, List, [], ◌∷◌, Option, None, Some, if◌then◌else◌}

-- the lines with one more byte before the first of them
abbrev pub in_first : ℕ → List (List ℕ) → List (List ℕ)
in_first byte [] = (byte ∷ []) ∷ []
in_first byte (line ∷ lines) = (byte ∷ line) ∷ lines

-- the lines of a text, each with the line feed, byte 10, that ends it; there is no line after a line feed at the end
abbrev pub lines_in : List ℕ → List (List ℕ)
lines_in [] = []
lines_in (byte ∷ bytes) = if byte == 10 then (byte ∷ []) ∷ lines_in bytes else in_first byte (lines_in bytes)

-- the length of the first line of a text; 0 if there is none
abbrev pub line_length : List ℕ → ℕ
line_length [] = 0
line_length (byte ∷ bytes) = if byte == 10 then 1 else line_length bytes + 1

-- a line that was split off; none if the text had ended: a line is never empty
abbrev pub line_there : List ℕ → Option (List ℕ)
line_there [] = None
line_there line = Some line
