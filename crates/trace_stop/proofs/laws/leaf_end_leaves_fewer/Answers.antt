use Rattle.trace_stop.proofs.laws.leaf_end_leaves_fewer.Goals as goal
use Rattle.trace_stop.proofs.LeafEnd as law

pub returns : goal.returns
returns c = law.leaf_end_leaves_fewer
