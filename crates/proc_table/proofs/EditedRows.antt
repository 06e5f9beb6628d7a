-- A row of a process edited in its place: it keeps its number, its user, its tracer and its parent.
use Rattle.proc_table.proofs.CommonNames.{◌≡◌, ℕ, sym, subst, ◌∙◌, Some, ProcData, process_of, Rows, change_process, TableInvariant, IsRow, set_process}
use Rattle.proc_table.proofs.Rows.{process_of-pid, row_found}
use Rattle.proc_table.proofs.Changes.{change_process-at}
use Rattle.proc_table.proofs.Stays.{process_there, named-same}
use Rattle.proc_table.proofs.KeepsProcesses.{keeps_set_process}
use Rattle.proc_table.proofs.Tied.{StaysInLists}

module _ (rows : Rows) (kept : TableInvariant rows) (pid : ℕ) (there : IsRow rows pid) where
  abbrev pub row : (p : ProcData) × (process_of pid rows.processes ≡ Some p)
  row = row_found pid rows.processes there

  pub own : process_of row.0.pid rows.processes ≡ Some row.0
  own = subst (λ n. process_of n rows.processes ≡ Some row.0) (sym (process_of-pid pid row.0 rows.processes row.1)) row.1

  module _ (edit : ProcData → ProcData) (stays : (p : ProcData) → StaysInLists p (edit p)) where
    at : process_of (edit row.0).pid rows.processes ≡ Some row.0
    at = rw (stays row.0).number own

    pub edited-kept : TableInvariant (set_process (edit row.0) rows)
    edited-kept =
        let its = stays row.0 in
        keeps_set_process (edit row.0) rows kept (process_there rows row.0 (edit row.0) at (sym its.user)) (named-same rows row.0 (edit row.0) at kept its.tracer its.parent)

    pub edited-set : set_process (edit row.0) rows ≡ change_process pid edit rows
    edited-set = sym (change_process-at pid edit rows row.0 kept.rising row.1 ((stays row.0).number ∙ process_of-pid pid row.0 rows.processes row.1))
