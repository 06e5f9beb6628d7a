use Rattle.trace_stop.proofs.LeftAlone.{left_fewer}
use Rattle.trace_stop.proofs.ends.detach_tracees.Goals as goal

pub loop-tracee-smaller : goal.loop-tracee-smaller
loop-tracee-smaller c = left_fewer c.args.pid c.loop-tracee.tables.rows c.detach_tracee.new.tables.rows c.loop-tracee.invariant.sound.stands c.in-Some.tracee c.in-Some.ensures c.detach_tracee.ensures.rows
