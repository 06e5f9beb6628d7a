use Rattle.lwp_table.proofs.PlaceLemmas.{none_placed}
use Rattle.lwp_table.proofs.user_heads.UserHeads.copy_from.Goals as goal

pub invariant_of-self : goal.invariant_of-self
invariant_of-self c = rw c.in_err-copy_items.ensures.emptied none_placed
