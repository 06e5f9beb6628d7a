-- The lines of bytes.
use Rattle.std.specs.{Prelude.{ℕ, ◌==◌, ◌≢◌, ◌≤◌, ◌-◌, ◌^◌, List, [], ◌∷◌, ◌++◌, length, Option, None, Some, IfSome, if◌then◌else◌}, List.AllByRecursion, Io.IsEmptyOrEndsWith, Io.KnownBytes.Consumes}
use Rattle.byte_lines.specs.declared.reading.LineEnd.{LineEnd, TheVariants.{Feed, Input}}

-- the lines with one more byte before the first of them
abbrev pub in_first : ℕ → List (List ℕ) → List (List ℕ)
in_first byte [] = (byte ∷ []) ∷ []
in_first byte (line ∷ lines) = (byte ∷ line) ∷ lines

-- the lines of some bytes: a line feed, byte 10, ends a line, and so does the end of the bytes; there is no line after
-- a line feed at the end
abbrev pub lines_in : List ℕ → List (List ℕ)
lines_in [] = []
lines_in (byte ∷ bytes) = if byte == 10 then [] ∷ lines_in bytes else in_first byte (lines_in bytes)

-- the last byte, if there is one, is a line feed: every line has its end
abbrev pub WholeLines : List ℕ → Type 0
WholeLines bytes = IsEmptyOrEndsWith bytes 10

-- no byte is a line feed
abbrev pub NoFeed : List ℕ → Type 0
NoFeed bytes = AllByRecursion (λ byte. byte ≢ 10) bytes

-- the bytes that end a line
abbrev pub end_bytes : LineEnd → List ℕ
end_bytes Feed = 10 ∷ []
end_bytes Input = []

-- the bytes that end a part of a line
abbrev pub part_end : Option LineEnd → List ℕ
part_end None = []
part_end (Some end) = end_bytes end

-- the reader gave these bytes of a line, and then those that end it
abbrev pub Loses : Option (List ℕ) → Option (List ℕ) → List ℕ → List ℕ → Type 0
Loses read unread text end = NoFeed text × Consumes read unread (text ++ end)

-- the reader has more bytes than are read in turns
abbrev pub IsEndless : Option (List ℕ) → Type 0
IsEndless read = IfSome read (λ xs. 2 ^ 64 - 1 ≤ length xs)
