-- What the LWP of a trace stop reports, and how it is dropped.
use Rattle.std.specs.Prelude.{◌≡◌, if◌then◌else◌}
use Rattle.trace_rows.specs.CommonNames.{ℕ, List, Option, Some, None, option_and_then, no_flags, shows, PL_FLAG_EXITED, LwpData, lwp_of, ProcData, process_of, reporting, Rows, set_lwp, drop_lwp}

-- an LWP of the process has stopped it for its tracer
pub record IsStopped (pid : ℕ) (rows : Rows) : Type 0 where
  pub p : ProcData
  pub at : process_of pid rows.processes ≡ Some p
  pub tid : ℕ
  pub reports : reporting p ≡ Some tid
  pub l : LwpData
  pub named : lwp_of tid rows.lwps ≡ Some l
  pub own : l.pid ≡ pid

-- the LWP with the number, if there is a number
abbrev pub reporter : Option ℕ → List LwpData → Option LwpData
reporter number lwps = option_and_then (λ tid. lwp_of tid lwps) number

abbrev pub unreported : LwpData → LwpData
unreported l = record l { flags = no_flags; child = 0; code = 0 }

-- the rows without what an LWP has reported, and without the LWP if it has exited
abbrev pub report_dropped : Option LwpData → Rows → Rows
report_dropped None rows = rows
report_dropped (Some l) rows = if shows l.flags PL_FLAG_EXITED then drop_lwp l.tid rows else set_lwp (unreported l) rows
