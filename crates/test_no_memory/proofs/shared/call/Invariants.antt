use Rattle.host_lock.specs.Sessions.{IsSame}
use Rattle.test_no_memory.proofs.shared.call.Given as goal

abbrev pub invariant-loop : goal.invariant-loop
invariant-loop g l = IsSame l.initial.session l.session
