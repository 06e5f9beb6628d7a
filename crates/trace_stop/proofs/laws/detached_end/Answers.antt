use Rattle.trace_stop.proofs.laws.detached_end.Goals as goal
use Rattle.trace_stop.proofs.LeafEnd as law

pub returns : goal.returns
returns c = law.detached_end
