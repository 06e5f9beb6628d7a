-- Which options and operands the words of a command line name.
use Rattle.std.specs.{Prelude.{ℕ, ◌==◌, Bool, true, ◌&&◌, ◌||◌, not, List, Option, Some, None, nat_eq, length, slice_get, codes, is_some, String, string_bytes, if◌then◌else◌}, Global.Global, List.{list_any, starts_with}, Str.bytes_eq, Borrow.Bor}
use Rattle.tracehost.specs.declared.asking.Arguments.{Arguments}

-- a word of the command line
abbrev pub Word : Type 0
Word = String Global

abbrev pub has_word : List Word → List ℕ → Bool
has_word words text = list_any (λ word. bytes_eq (string_bytes word) text) words

-- what follows an option in its word: nothing, or `=` (61) and a value
abbrev pub ends_option : Option ℕ → Bool
ends_option None = true
ends_option (Some byte) = byte == 61

abbrev pub names : List ℕ → List ℕ → Bool
names option word = starts_with nat_eq word option && ends_option (slice_get word (length option))

abbrev pub has_option : List Word → List ℕ → Bool
has_option words option = list_any (λ word. names option (string_bytes word)) words

-- an option is set exactly if a word names it; with a word `--`, after which no word is an option, only if one does
abbrev pub is_so : List Word → List ℕ → Bool → Bool
is_so words option is_set = if is_set then has_option words option else (has_word words (codes "--") || not (has_option words option))

-- the operand is a word
abbrev pub is_operand : List Word → Option (Bor (List ℕ)) → Bool
is_operand words None = true
is_operand words (Some file) = has_word words file.now

-- the arguments are set as the words say
abbrev pub are_so : List Word → Arguments → Bool
are_so words arguments =
    is_operand words arguments.file
    && (is_so words (codes "--explain") (is_some arguments.explain)
    && (is_so words (codes "--user") (is_some arguments.user)
    && (is_so words (codes "--threads") arguments.threads
    && (is_so words (codes "--expect") (is_some arguments.expect)
    && (is_so words (codes "--bless") arguments.bless
    && (is_so words (codes "--expect-list") (is_some arguments.list)
    && (is_so words (codes "--json") (is_some arguments.json)
    && (is_so words (codes "--lines") arguments.lines
    && is_so words (codes "--kill-on-debugger-exit") (is_some arguments.kill_on_debugger_exit)))))))))
