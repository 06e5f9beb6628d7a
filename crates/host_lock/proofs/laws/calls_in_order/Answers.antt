use Rattle.host_lock.proofs.Moments as moments
use Rattle.host_lock.proofs.laws.calls_in_order.Goals as goal

pub returns : goal.returns
returns c = moments.calls_in_order
