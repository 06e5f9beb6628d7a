use Rattle.trace_stop.proofs.CommonNames.{◌≡◌, ℕ, count_by, end_alone, IsLeaving}
use Rattle.proc_table.specs.Processes.{traces}
use Rattle.trace_stop.proofs.leaf.orphan_tracees.Given as goal

abbrev pub invariant-loop-zombie : goal.invariant-loop-zombie
invariant-loop-zombie l = record {
  leaving : IsLeaving l.pid l.tables.rows;
  same : (status : ℕ) → end_alone l.pid status l.tables.rows ≡ end_alone l.pid status l.fn.tables.rows;
}

abbrev pub decreases-loop-zombie : goal.decreases-loop-zombie
decreases-loop-zombie l = count_by (traces l.pid) l.tables.rows.processes
