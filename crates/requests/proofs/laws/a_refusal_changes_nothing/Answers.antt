use Rattle.requests.proofs.laws.a_refusal_changes_nothing.Goals as goal

pub returns : goal.returns
returns c = Rattle.requests.proofs.RefusalsChangeNothing.a_refusal_changes_nothing
