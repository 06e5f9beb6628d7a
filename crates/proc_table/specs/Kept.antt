-- What contracts see of the tables, the edits of rows, and what the tables always maintain.
use Rattle.std.specs.Prelude.{◌≡◌, ◌≢◌, ◌<◌, ◌==◌, ◌∷◌, if◌then◌else◌}
use Rattle.proc_table.specs.CommonNames.{ℕ, true, not, List, [], Some, IfSome, filter, map, length, get_or, AllByRecursion, IsUser, slot, pid_block, tid_block, InBlock, ProcData, LwpData, with_lwp}
use Rattle.proc_table.specs.CommonNames.{without_lwp, Differ}
use Rattle.proc_table.specs.Processes.{process_of}
use Rattle.proc_table.specs.Rows.{Rows}
use Rattle.proc_table.specs.Fresh.{is_process}

-- what contracts see of the tables: the rows, and how many more fit without allocation
pub record Table : Type 0 where
  pub rows : Rows
  pub spare_processes : ℕ
  pub spare_lwps : ℕ

-- each number is greater than n
abbrev pub AllAbove : ℕ → List ProcData → Type 0
AllAbove n processes = AllByRecursion (λ q. n < q.pid) processes

-- the numbers rise
abbrev pub Rise : List ProcData → Type 0
Rise [] = Unit {0}
Rise (q ∷ qs) = AllAbove q.pid qs × Rise qs

-- a row has the number
abbrev pub IsRow : Rows → ℕ → Type 0
IsRow rows n = is_process rows n ≡ true

-- a process of a user, with a number in the user's block
pub record InOwnBlock (p : ProcData) : Type 0 where
  pub user : IsUser p.uid
  pub block : InBlock (pid_block p.uid) p.pid

-- the tracer, and a parent other than 1, are rows
pub record Named (rows : Rows) (p : ProcData) : Type 0 where
  pub tracer : IfSome p.tracer (IsRow rows)
  pub parent : p.parent ≢ 1 → IsRow rows p.parent

-- the LWP's process is a row, and the LWP's number is in the block of that process's user
abbrev pub InOwnersBlock : Rows → LwpData → Type 0
InOwnersBlock rows l = (p : ProcData) × (process_of l.pid rows.processes ≡ Some p) × InBlock (tid_block p.uid) l.tid

-- what the tables maintain of their rows
pub record TableInvariant (rows : Rows) : Type 0 where
  pub rising : Rise rows.processes
  pub differ : Differ rows.lwps
  pub in_own_blocks : AllByRecursion InOwnBlock rows.processes
  pub named : AllByRecursion (Named rows) rows.processes
  pub in_owners_block : AllByRecursion (InOwnersBlock rows) rows.lwps
  pub pid_slots : length rows.pid_cursors ≡ 64
  pub tid_slots : length rows.tid_cursors ≡ 64
  pub pid_cursors : (u : ℕ) → IsUser u → InBlock (pid_block u) (get_or rows.pid_cursors (slot u) 0)
  pub tid_cursors : (u : ℕ) → IsUser u → InBlock (tid_block u) (get_or rows.tid_cursors (slot u) 0)

-- the new row if it has the number of the old one, and else the old row
abbrev pub put_process : ProcData → ProcData → ProcData
put_process new p = if p.pid == new.pid then new else p

-- the rows with a new row in place of the one with its number, and the rows without the one with a number
abbrev pub set_process : ProcData → Rows → Rows
set_process new rows = record rows { processes = map (put_process new) rows.processes }

abbrev pub drop_process : ℕ → Rows → Rows
drop_process pid rows = record rows { processes = filter (λ p. not (p.pid == pid)) rows.processes }

abbrev pub set_lwp : LwpData → Rows → Rows
set_lwp new rows = record rows { lwps = with_lwp new rows.lwps }

abbrev pub drop_lwp : ℕ → Rows → Rows
drop_lwp tid rows = record rows { lwps = without_lwp tid rows.lwps }
