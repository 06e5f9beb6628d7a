-- The rows during the end of a process without live tracees, after its LWPs are gone and no LWP waits for it.
use Rattle.std.specs.Prelude.{◌≡◌, ◌≢◌, ◌==◌, ◌&&◌}
use Rattle.trace_rows.specs.CommonNames.{ℕ, Bool, true, false, not, IfSome, filter, is_none, AllByRecursion, LwpData, ProcData, is_live, traces, Rows, by_owner, owner, edit_lwps}
use Rattle.trace_rows.specs.End.{waits_where, lwp_after}
use Rattle.trace_rows.specs.Sound.{is_live_at}

-- the rows without the LWPs of a process
abbrev pub without_lwps : ℕ → Rows → Rows
without_lwps pid rows = record rows { lwps = filter (λ l. not (l.pid == pid)) rows.lwps }

-- the rows after the LWPs of q are gone and the waits for q are over
abbrev pub lwps_ended : ℕ → Rows → Rows
lwps_ended q rows = edit_lwps (λ l. by_owner (lwp_after (λ r. r.pid == q) (λ n. n == q)) l (owner rows l)) rows

-- a row names live processes, is no live tracee of q, and has a tracer or a parent that collects it
pub record LeavingRow (alive : ℕ → Bool) (q : ℕ) (r : ProcData) : Type 0 where
  pub lives : is_live r ≡ alive r.pid
  pub tracer : IfSome r.tracer (λ t. alive t ≡ true)
  pub parent : r.parent ≢ 1 → alive r.parent ≡ true
  pub free : is_live r ≡ true → traces q r ≡ false
  pub left : is_live r ≡ false → (is_none r.tracer && (r.parent == 1)) ≡ false

-- an LWP belongs to another live process, and doesn't wait for q
pub record LeavingLwp (alive : ℕ → Bool) (q : ℕ) (l : LwpData) : Type 0 where
  pub lives : alive l.pid ≡ true
  pub other : (l.pid == q) ≡ false
  pub waits : waits_where (λ n. n == q) l.mode ≡ false

-- q is about to end; `alive` tests for the numbers of live processes
pub record IsLeaving (q : ℕ) (rows : Rows) : Type 0 where
  pub alive : ℕ → Bool
  pub here : is_live_at q rows ≡ true
  pub processes : AllByRecursion (LeavingRow alive q) rows.processes
  pub lwps : AllByRecursion (LeavingLwp alive q) rows.lwps
