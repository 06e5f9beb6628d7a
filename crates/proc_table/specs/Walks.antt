-- Walks over processes: each step returns the least greater number.
use Rattle.std.specs.Prelude.{◌≡◌, ◌==◌, ◌&&◌}
use Rattle.proc_table.specs.CommonNames.{ℕ, Bool, ltb, List, Option, Some, find, ProcData}
use Rattle.proc_table.specs.Processes.{process_of, traces, has_news}

-- the first process above a number: of a user, of a user and with news, traced by a process, or a child of one
abbrev pub next_of : ℕ → ℕ → List ProcData → Option ProcData
next_of u after processes = find (λ p. ltb after p.pid && (p.uid == u)) processes

abbrev pub next_news : ℕ → ℕ → List ProcData → Option ProcData
next_news u after processes = find (λ p. ltb after p.pid && ((p.uid == u) && has_news p)) processes

abbrev pub next_tracee : ℕ → ℕ → List ProcData → Option ProcData
next_tracee pid after processes = find (λ p. ltb after p.pid && traces pid p) processes

abbrev pub next_child : ℕ → ℕ → List ProcData → Option ProcData
next_child pid after processes = find (λ p. ltb after p.pid && (p.parent == pid)) processes

-- the first process that passes a test: of those traced by a process, and of the children of one
abbrev pub find_tracee : ℕ → (ProcData → Bool) → List ProcData → Option ProcData
find_tracee pid test processes = find (λ p. traces pid p && test p) processes

abbrev pub find_child : ℕ → (ProcData → Bool) → List ProcData → Option ProcData
find_child pid test processes = find (λ p. (p.parent == pid) && test p) processes

-- for each of the rows, each result of a call is the test's
abbrev pub DecidesRows : (ProcData → Bool → Type 0) → List ProcData → (ProcData → Bool) → Type 0
DecidesRows returns processes test = (p : ProcData) (b : Bool) → process_of p.pid processes ≡ Some p → returns p b → b ≡ test p
