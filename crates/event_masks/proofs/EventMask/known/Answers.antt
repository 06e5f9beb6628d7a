use Rattle.event_masks.proofs.Bits.{known-is}
use Rattle.event_masks.proofs.EventMask.known.Goals as goal

pub returns : goal.returns
returns c = known-is c.args.bits c.from_bits.result (c.from_bits.ensures.value tt) (c.from_bits.ensures.known tt)
