use Rattle.std.proofs.Math.Facts.{to_z-of_z}
use Rattle.tracehost_c.proofs.tracehost_kill.Goals as goal

pub returns : goal.returns
returns c = rw (to_z-of_z c.ranges.which) at c.make.ensures
