use Rattle.std.proofs.Common.{◌∙◌}
use Rattle.signals.proofs.Bits.{lowest-is}
use Rattle.signals.proofs.SigSet.lowest.Goals as goal

pub returns : goal.returns
returns c = rw (← c.self.view_is) (c.ok.ensures.value ∙ lowest-is c.self.inside.bits c.new.result c.self.invariant c.new.ensures)
