use Rattle.host_lock.specs.Sessions.{IsOf}
use Rattle.test_surface_runs.proofs.shared_host.pairs.work.Given as goal

abbrev pub invariant-loop-step : goal.invariant-loop-step
invariant-loop-step g l = IsOf l.host l.session
