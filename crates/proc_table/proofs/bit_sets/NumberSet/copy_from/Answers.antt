use Rattle.proc_table.proofs.Bits.{none_paged}
use Rattle.proc_table.proofs.bit_sets.NumberSet.copy_from.Goals as goal

pub invariant_of-self : goal.invariant_of-self
invariant_of-self c = rw c.in_err-copy_items.ensures.emptied none_paged
