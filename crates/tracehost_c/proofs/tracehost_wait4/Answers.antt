use Rattle.std.proofs.Math.Facts.{to_z-of_z}
use Rattle.tracehost_c.proofs.tracehost_wait4.Goals as goal

pub returns-in-Some : goal.returns-in-Some
returns-in-Some c = rw (← c.in-Some.ensures) (rw (to_z-of_z c.ranges.which) at c.make.ensures)

pub returns-in-None : goal.returns-in-None
returns-in-None c = rw (← c.in-None.ensures) (c.refused.ensures c.args.user c.args.reply.now)
