use Rattle.trace_stop.proofs.CommonNames.{◌≡◌, ℕ, false, count_by, ◌==◌, list_any, traces, end_alone, IsLeaving}
use Rattle.trace_stop.proofs.leaf.orphan_children.Given as goal

abbrev pub invariant-loop-child : goal.invariant-loop-child
invariant-loop-child l = record {
  leaving : IsLeaving l.pid l.tables.rows;
  untraced : list_any (traces l.pid) l.tables.rows.processes ≡ false;
  same : (status : ℕ) → end_alone l.pid status l.tables.rows ≡ end_alone l.pid status l.fn.tables.rows;
}

abbrev pub decreases-loop-child : goal.decreases-loop-child
decreases-loop-child l = count_by (λ r. r.parent == l.pid) l.tables.rows.processes
