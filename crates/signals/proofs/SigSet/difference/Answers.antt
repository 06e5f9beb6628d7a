use Rattle.signals.proofs.Bits.{difference-is}
use Rattle.signals.proofs.SigSet.difference.Goals as goal

pub returns : goal.returns
returns c = rw (← c.self.view_is, ← c.other.view_is) (difference-is c.self.inside.bits c.other.inside.bits c.self.invariant c.other.invariant)
