use Rattle.scenario_text.proofs.CommonNames.{Keeps}
use Rattle.scenario_text.proofs.retrying.read_some.Given as goal

abbrev pub invariant-loop : goal.invariant-loop
invariant-loop g l = Keeps (g.R.Read.remaining l.initial.reader) (g.R.Read.remaining l.reader)
