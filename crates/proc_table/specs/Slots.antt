-- How slots contain the rows of processes: a slot for each number, and a row in each slot.
use Rattle.std.specs.Prelude.{◌≡◌, ◌==◌}
use Rattle.proc_table.specs.CommonNames.{ℕ, List, Option, Some, nat_eq, count_by, get_or, option_and_then, lookup, IsUser, slot, listing, ProcData}
use Rattle.proc_table.specs.Keep.{keep}
use Rattle.proc_table.specs.Kept.{InOwnBlock}

-- what contracts see of only the processes: the rows by rising number, and how many more fit without allocation
pub record ProcRows : Type 0 where
  pub rows : List ProcData
  pub spare : ℕ

-- how many numbers all blocks have together. It unfolds only where a proof says so, and no list of all numbers is ever
-- computed
unfoldable pub pid_count : ℕ
pid_count = 64000

-- the rows of all numbers, by rising number
abbrev pub all_rows : (ℕ → Option ProcData) → List ProcData
all_rows f = listing f 1000 pid_count

-- the row in the slot to which a number leads, if it has the number: it may have had it once
abbrev pub look : (ℕ → Option ProcData) → List (ℕ × ℕ) → ℕ → Option ProcData
look slots es pid = keep (λ row. row.pid == pid) (option_and_then slots (lookup (nat_eq pid) es))

-- each row's number leads to its slot, and the row is at home
pub record IsStored (slots : ℕ → Option ProcData) (es : List (ℕ × ℕ)) : Type 0 where
  pub listed : (s : ℕ) (row : ProcData) → slots s ≡ Some row → lookup (nat_eq row.pid) es ≡ Some s
  pub home : (s : ℕ) (row : ProcData) → slots s ≡ Some row → InOwnBlock row

-- the number of each user's rows
abbrev pub IsTally : List ℕ → List ProcData → Type 0
IsTally counts rows = (u : ℕ) → IsUser u → get_or counts (slot u) 0 ≡ count_by (λ p. p.uid == u) rows

-- what is maintained of the slots
pub record IsSlotted (slots : ℕ → Option ProcData) (es : List (ℕ × ℕ)) (counts : List ℕ) : Type 0 where
  pub stored : IsStored slots es
  pub tally : IsTally counts (all_rows (look slots es))
