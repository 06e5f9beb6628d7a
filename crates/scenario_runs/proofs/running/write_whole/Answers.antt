use Rattle.scenario_runs.proofs.CommonNames.{rules}
use Rattle.scenario_runs.proofs.WriteLemmas.{front_sliced, front_taken, front_ended}
use Rattle.scenario_runs.proofs.running.write_whole.Goals as goal

pub loop-rest-preserved : goal.loop-rest-preserved
loop-rest-preserved g c = front_sliced _ _ _ _ _ c.in-Ok.n c.loop-rest.invariant c.in-Ok.ensures.bytes

pub returns-in-Ok-eq0-clause-writes : goal.returns-in-Ok-eq0-clause-writes
returns-in-Ok-eq0-clause-writes g c = front_ended _ _ _ _ _ c.loop-rest.invariant (search rules)

pub returns-in-Err-clause-writes : goal.returns-in-Err-clause-writes
returns-in-Err-clause-writes g c = front_taken _ _ _ _ _ c.loop-rest.invariant c.in-Err.ensures.bytes
