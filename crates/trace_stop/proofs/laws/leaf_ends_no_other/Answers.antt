use Rattle.trace_stop.proofs.laws.leaf_ends_no_other.Goals as goal
use Rattle.trace_stop.proofs.LeafEnd as law

pub returns : goal.returns
returns c = law.leaf_ends_no_other
