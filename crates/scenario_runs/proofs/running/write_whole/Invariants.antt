use Rattle.scenario_runs.proofs.CommonNames.{length}
use Rattle.scenario_runs.proofs.WriteLemmas.{Front}
use Rattle.scenario_runs.proofs.running.write_whole.Given as goal

abbrev pub invariant-loop-rest : goal.invariant-loop-rest
invariant-loop-rest g l = Front (g.W.Write.contents l.initial.writer) (g.W.Write.contents l.writer) l.rest l.bytes

abbrev pub decreases-loop-rest : goal.decreases-loop-rest
decreases-loop-rest g l = length l.rest
