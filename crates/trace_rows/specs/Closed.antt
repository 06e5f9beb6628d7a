-- Rows that keep users apart: each row names only numbers of one user.
use Rattle.std.specs.Prelude.{◌≡◌, ◌≢◌}
use Rattle.trace_rows.specs.CommonNames.{ℕ, false, true, List, Option, None, IfSome, length, get_or, AllByRecursion, IsUser, pid_owner, tid_owner, pid_block, tid_block, slot, InBlock, IsSomeAnd}
use Rattle.trace_rows.specs.CommonNames.{ProcData, is_live, reporting, process_of, Rows, Rise}
use Rattle.lwp_table.specs.declared.LwpData.{LwpData}
use Rattle.trace_rows.specs.Facts.{waited_for}

-- the number 1, or a number of a process in the user's block
abbrev pub Mine : ℕ → ℕ → Type 0
Mine u n = n ≢ 1 → pid_owner n ≡ u

-- a process names only numbers of its own user, and a zombie has a tracer or a parent that collects it
pub record GoodProc (p : ProcData) : Type 0 where
  pub user : IsUser p.uid
  pub block : pid_owner p.pid ≡ p.uid
  pub tracer : IfSome p.tracer (λ t. pid_owner t ≡ p.uid)
  pub parent : Mine p.uid p.parent
  pub reporting : IfSome (reporting p) (λ t. tid_owner t ≡ p.uid)
  pub collector : is_live p ≡ false → p.tracer ≡ None → p.parent ≢ 1

-- an LWP names only numbers of its own user
pub record GoodLwp (l : LwpData) : Type 0 where
  pub block : tid_owner l.tid ≡ pid_owner l.pid
  pub waits : IfSome (waited_for l.mode) (λ c. pid_owner c ≡ pid_owner l.pid)

abbrev pub LiveRow : Option ProcData → Type 0
LiveRow found = IsSomeAnd found (λ p. is_live p ≡ true)

-- the process of an LWP is live
abbrev pub LiveOwner : List ProcData → LwpData → Type 0
LiveOwner ps l = LiveRow (process_of l.pid ps)

-- what rows satisfy at every moment of a step of u
pub record Closed (u : ℕ) (rows : Rows) : Type 0 where
  pub processes : AllByRecursion GoodProc rows.processes
  pub lwps : AllByRecursion GoodLwp rows.lwps
  pub in_owners_block : AllByRecursion (LiveOwner rows.processes) rows.lwps
  pub rising : Rise rows.processes
  pub user : IsUser u
  pub pid_slots : length rows.pid_cursors ≡ 64
  pub tid_slots : length rows.tid_cursors ≡ 64
  pub pid_cursor : InBlock (pid_block u) (get_or rows.pid_cursors (slot u) 0)
  pub tid_cursor : InBlock (tid_block u) (get_or rows.tid_cursors (slot u) 0)
