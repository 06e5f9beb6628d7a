use Rattle.trace_stop.proofs.CommonNames.{◌≡◌, length, without_lwps}
use Rattle.trace_stop.proofs.leaf.remove_lwps.Given as goal

abbrev pub invariant-loop-lwp : goal.invariant-loop-lwp
invariant-loop-lwp l = without_lwps l.pid l.tables.rows ≡ without_lwps l.pid l.fn.tables.rows

abbrev pub decreases-loop-lwp : goal.decreases-loop-lwp
decreases-loop-lwp l = length l.tables.rows.lwps
