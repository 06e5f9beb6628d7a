use Rattle.std.proofs.Common.{All}
use Rattle.sessions.specs.Runs.{IsShort}
use Rattle.test_surface_runs.proofs.session_runs.order.install_each.Given as goal

abbrev pub invariant-loop-uid : goal.invariant-loop-uid
invariant-loop-uid l = All IsShort l.scripts.items
