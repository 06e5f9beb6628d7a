use Rattle.lwp_table.proofs.PlaceLemmas.{none_placed}
use Rattle.lwp_table.proofs.user_heads.UserHeads.new.Goals as goal

pub invariant_of-result : goal.invariant_of-result
invariant_of-result c = rw c.new.ensures.items none_placed
