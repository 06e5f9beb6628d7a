use Rattle.host_lock.specs.Sessions.{IsOf}
use Rattle.test_surface_runs.proofs.shared_host.opening.call_in_turn.Given as goal

abbrev pub invariant-loop-line : goal.invariant-loop-line
invariant-loop-line g l = IsOf l.host l.first × IsOf l.host l.second
