use Rattle.std.proofs.Common.{All}
use Rattle.host_lock.specs.Sessions.{IsOf}
use Rattle.test_no_memory.proofs.shared.call_all.Given as goal

abbrev pub invariant-loop-step : goal.invariant-loop-step
invariant-loop-step g l = All (IsOf l.host) l.sessions.items
