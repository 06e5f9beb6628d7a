use Rattle.std.proofs.Common.{All}
use Rattle.sessions.specs.Runs.{IsShort}
use Rattle.test_sessions.proofs.stress.scripts.scripts.Given as goal

abbrev pub invariant-loop-place : goal.invariant-loop-place
invariant-loop-place l = All IsShort l.scripts.items

abbrev pub invariant-loop-turn : goal.invariant-loop-turn
invariant-loop-turn l = All IsShort l.scripts.items
