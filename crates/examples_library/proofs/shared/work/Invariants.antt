use Rattle.host_lock.specs.Sessions.{IsOf}
use Rattle.examples_library.proofs.shared.work.Given as goal

abbrev pub invariant-loop-step : goal.invariant-loop-step
invariant-loop-step g l = IsOf l.host l.session
