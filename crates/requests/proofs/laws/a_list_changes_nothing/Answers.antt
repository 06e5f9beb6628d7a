use Rattle.requests.proofs.laws.a_list_changes_nothing.Goals as goal

pub returns : goal.returns
returns c = Rattle.requests.proofs.RefusalsChangeNothing.listing_same
