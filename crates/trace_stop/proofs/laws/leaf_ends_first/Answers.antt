use Rattle.trace_stop.proofs.laws.leaf_ends_first.Goals as goal
use Rattle.trace_stop.proofs.LeafEndsFirst as law

pub returns : goal.returns
returns c = law.leaf_ends_first
