use Rattle.trace_stop.proofs.CommonNames.{◌≡◌, true, count_by, left_alone, IsSound, is_live_at, spares}
use Rattle.trace_stop.proofs.LeftAlone.{is_tracee}
use Rattle.trace_stop.proofs.ends.detach_tracees.Given as goal

-- the tracees that are left are those that were to be detached
abbrev pub invariant-loop-tracee : goal.invariant-loop-tracee
invariant-loop-tracee l = record {
  sound : IsSound l.tables.rows;
  live : is_live_at l.pid l.tables.rows ≡ true;
  rows : left_alone spares l.pid l.tables.rows ≡ left_alone spares l.pid l.fn.tables.rows;
}

abbrev pub decreases-loop-tracee : goal.decreases-loop-tracee
decreases-loop-tracee l = count_by (is_tracee l.pid) l.tables.rows.processes
