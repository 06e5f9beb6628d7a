-- Rows that were found by their numbers.
use Rattle.std.proofs.Common.{◌≡◌, ℕ, true, Some, sym, subst}
use Rattle.std.specs.Prelude.{IsSomeAnd, is_some}
use Rattle.proc_table.proofs.Rows.{found_row}
use Rattle.proc_table.specs.Processes.{process_of, reporting}
use Rattle.proc_table.specs.declared.ProcData.{ProcData}
use Rattle.proc_table.specs.Rows.{Rows}
use Rattle.trace_rows.specs.Facts.{IsSound}
use Rattle.requests.specs.Machine.{Machine}
use Rattle.requests.specs.Sound.{sound}
use Rattle.requests.proofs.SoundWithoutEnded.{rows_sound}

-- a process that was found in a trace stop
pub found_stopped : (n : ℕ) (rows : Rows) (p : ProcData) → process_of n rows.processes ≡ Some p → is_some (reporting p) ≡ true → IsSomeAnd (process_of n rows.processes) (λ q. is_some (reporting q) ≡ true)
found_stopped n rows p found stops = subst (λ o. IsSomeAnd o (λ q. is_some (reporting q) ≡ true)) (sym found) stops

pub ruleset found_rows = (found_row, found_stopped)

-- rows that are those of a host
pub copied_sound : (m : Machine) (rows : Rows) → sound m ≡ true → rows ≡ m.rows → IsSound rows
copied_sound m rows is same = subst IsSound (sym same) (rows_sound m is)
