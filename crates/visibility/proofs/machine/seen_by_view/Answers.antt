use Rattle.visibility.proofs.machine.seen_by_view.Goals as goal

pub returns : goal.returns
returns c = Rattle.visibility.proofs.ForeignLists.seen_by_view
