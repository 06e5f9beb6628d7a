use Rattle.std.proofs.Common.{◌-◌}
use Rattle.trace_stop.proofs.Descents.{NoneBetween}
use Rattle.trace_stop.proofs.ends.live_tracee_above.Given as goal

abbrev pub invariant-loop-tracee : goal.invariant-loop-tracee
invariant-loop-tracee l = NoneBetween l.pid l.tables.rows.processes l.fn.number l.after

abbrev pub decreases-loop-tracee : goal.decreases-loop-tracee
decreases-loop-tracee l = 4294967296 - l.after
