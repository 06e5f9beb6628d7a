use Rattle.requests.proofs.laws.no_report_changes_nothing.Goals as goal

pub returns : goal.returns
returns c = Rattle.requests.proofs.RefusalsChangeNothing.no_report_changes_nothing
