-- What rows must satisfy before a change that makes them sound.
use Rattle.std.specs.Prelude.{◌≡◌, ◌≢◌, ◌≤◌}
use Rattle.trace_rows.specs.CommonNames.{ℕ, true, false, None, is_some, AllByRecursion, IsSomeAnd, shows, PL_FLAG_EXITED, LwpData, lwp_of, ProcData, is_live, reporting, Rows, lwp_count, StopInfo}
use Rattle.trace_rows.specs.Facts.{FitProcess, FitLwp, WithOwner, MidStepInvariant}
use Rattle.trace_rows.specs.Sound.{is_live_at}

-- SIGCHLD may be posted to the process with the number: it is live, or the number is 1, which no row has
abbrev pub MayTell : Rows → ℕ → Type 0
MayTell rows n = n ≢ 1 → is_live_at n rows ≡ true

-- a fit process; if it is the process pid, live and fit except for its pending signals
abbrev pub FitButPending : ℕ → ProcData → Type 0
FitButPending pid p = (p.pid ≢ pid → FitProcess p) × (p.pid ≡ pid → FitProcess (record p { pending = 0 }) × (is_live p ≡ true))

-- a fit LWP, with the same exception if its process is pid
abbrev pub FitLwpButPending : ℕ → ProcData → LwpData → Type 0
FitLwpButPending pid p l = (p.pid ≢ pid → FitLwp p l) × (p.pid ≡ pid → FitLwp p (record l { pending = 0 }))

-- rows that become sound when the pending sets of a live process are settled
pub record IsSoundButPending (pid : ℕ) (rows : Rows) : Type 0 where
  pub stands : MidStepInvariant rows
  pub processes : AllByRecursion (FitButPending pid) rows.processes
  pub lwps : AllByRecursion (WithOwner rows (FitLwpButPending pid)) rows.lwps

-- a traced process that can stop. It may still be stopped by job control, as while it is being attached
pub record Ready (p : ProcData) : Type 0 where
  pub live : is_live p ≡ true
  pub traced : is_some p.tracer ≡ true
  pub quiet : reporting p ≡ None
  pub calm : p.continued ≡ false

-- a fit process, or if it is the process pid, one that is ready to stop
abbrev pub FitOrReady : ℕ → ProcData → Type 0
FitOrReady pid p = (p.pid ≢ pid → FitProcess p) × (p.pid ≡ pid → Ready p)

-- rows that become sound when the LWP tid stops the process pid. An LWP that shows its exit isn't the last one
pub record MayStop (pid tid : ℕ) (shown : StopInfo) (rows : Rows) : Type 0 where
  pub stands : MidStepInvariant rows
  pub processes : AllByRecursion (FitOrReady pid) rows.processes
  pub lwps : AllByRecursion (WithOwner rows FitLwp) rows.lwps
  pub own : IsSomeAnd (lwp_of tid rows.lwps) (λ l. l.pid ≡ pid)
  pub exits : shows shown.flags PL_FLAG_EXITED ≡ true → 2 ≤ lwp_count pid rows
