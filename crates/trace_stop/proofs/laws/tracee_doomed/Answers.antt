use Rattle.trace_stop.proofs.laws.tracee_doomed.Goals as goal
use Rattle.trace_stop.proofs.Descents as law

pub returns : goal.returns
returns c = law.tracee_doomed
