-- The names of flags with their bits, in the order in which they are printed.
use Rattle.std.specs.Prelude.{ℕ, false, ◌==◌, ◌-◌, ◌^◌, List, [], ◌∷◌, ◌++◌, map, filter, codes, if◌then◌else◌}
use Rattle.std.specs.Borrow.{Bor}
use Rattle.std.specs.Fmt.{digits}
use Rattle.std.specs.Int.RustNames.{bit_and}
use Rattle.std.specs.List.{join_by}

abbrev pub event_table : List (List ℕ × ℕ)
event_table =
    (codes "PTRACE_EXEC", 1)
    ∷ (codes "PTRACE_SCE", 2)
    ∷ (codes "PTRACE_SCX", 4)
    ∷ (codes "PTRACE_FORK", 8)
    ∷ (codes "PTRACE_LWP", 16)
    ∷ (codes "PTRACE_VFORK", 32)
    ∷ []

abbrev pub stop_table : List (List ℕ × ℕ)
stop_table =
    (codes "PL_FLAG_SCE", 1)
    ∷ (codes "PL_FLAG_SCX", 2)
    ∷ (codes "PL_FLAG_EXEC", 4)
    ∷ (codes "PL_FLAG_FORKED", 8)
    ∷ (codes "PL_FLAG_CHILD", 16)
    ∷ (codes "PL_FLAG_BORN", 32)
    ∷ (codes "PL_FLAG_EXITED", 64)
    ∷ (codes "PL_FLAG_VFORKED", 128)
    ∷ (codes "PL_FLAG_VFORK_DONE", 256)
    ∷ []

-- the names of the flags of a set, in order
abbrev pub names_of : List (List ℕ × ℕ) → ℕ → List (List ℕ)
names_of table bits = map (λ row. row.0) (filter (λ row. bit_and bits row.1 == row.1) table)

-- words with a text between each two, or another text if there is no word
abbrev pub joined : List ℕ → List ℕ → List (List ℕ) → List ℕ
joined none between [] = none
joined none between (w ∷ ws) = join_by (λ v. v) between (w ∷ ws)

-- the text of a set of flags: its names, separated by `+`
abbrev pub flag_text : List (List ℕ × ℕ) → ℕ → List ℕ
flag_text table bits = joined (codes "none") (codes "+") (names_of table bits)

-- bits as one word in hexadecimal, or no word if none is set
abbrev pub hex_words : ℕ → List (List ℕ)
hex_words bits = if bits == 0 then [] else (codes "0x" ++ digits 16 false bits) ∷ []

-- a set as programmers see it, as Rust's crate `bitflags` prints it: the names, and last the bits that are no flag's
abbrev pub shown_flags : List (List ℕ × ℕ) → ℕ → ℕ → List ℕ
shown_flags table known bits = joined (codes "0x0") (codes " | ") (names_of table bits ++ hex_words (bit_and bits (2 ^ 32 - 1 - known)))

-- a name with its bit, as in the program's table
abbrev pub named_bit : Bor (List ℕ) × ℕ → List ℕ × ℕ
named_bit row = (row.0.now, row.1)
