-- A process in a trace stop is stopped by an LWP of its own.
use Rattle.trace_rows.proofs.CommonNames.{◌≡◌, ℕ, true, Option, List, Some, IsSome, arith, nat_eq, rules, IfSome, ◌&&◌, list_any, nat_tests, LwpData, Differ, lwp_of, ProcData, process_of, reporting, is_live, Rows, IsRow, MidStepInvariant}
use Rattle.trace_rows.proofs.CommonNames.{IsStopped, every_found, process_of-pid, found_row}
use Rattle.trace_rows.proofs.Every.{any_holds}
use Rattle.trace_rows.proofs.Numbers.{own_lwps}

-- the LWP with the number is the process's, if one of the process's has it
pub own_found : (tid pid : ℕ) (ls : List LwpData) → Differ ls → list_any (λ l. nat_eq l.tid tid && nat_eq l.pid pid) ls ≡ true → (l : LwpData) × (lwp_of tid ls ≡ Some l) × (l.pid ≡ pid)
own_found tid pid ls d any = any_holds _ _ _ (λ l own is. grind (arith, nat_tests, own, is)) ls (own_lwps ls d) any

pub own_reporter : (pid tid : ℕ) (rows : Rows) (p : ProcData) → MidStepInvariant rows → process_of pid rows.processes ≡ Some p → reporting p ≡ Some tid → (l : LwpData) × (lwp_of tid rows.lwps ≡ Some l) × (l.pid ≡ pid)
own_reporter pid tid rows p stands at reports = search (rules, every_found, own_found, process_of-pid)

pub IsStopped-from : (pid tid : ℕ) (rows : Rows) (p : ProcData) → MidStepInvariant rows → process_of pid rows.processes ≡ Some p → reporting p ≡ Some tid → IsStopped pid rows
IsStopped-from pid tid rows p stands at reports = search (rules, own_reporter)

-- the LWP that a process names is there
pub reporter_there : (pid : ℕ) (rows : Rows) (p : ProcData) → MidStepInvariant rows → process_of pid rows.processes ≡ Some p → (o : Option ℕ) → reporting p ≡ o → IfSome o (λ tid. IsSome (lwp_of tid rows.lwps))
reporter_there pid rows p stands at o e = grind (arith, own_reporter pid)

-- a stopped process is a row, and live
pub stopped_row : (pid : ℕ) (rows : Rows) → IsStopped pid rows → IsRow rows pid
stopped_row pid rows s = found_row pid s.p rows.processes s.at

pub stopped_live : (pid : ℕ) (rows : Rows) (s : IsStopped pid rows) → is_live s.p ≡ true
stopped_live pid rows s = grind (arith, nat_tests)
