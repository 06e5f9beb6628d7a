use Rattle.visibility.proofs.machine.foreign_numbers.Goals as goal

pub returns-clause-numbers : goal.returns-clause-numbers
returns-clause-numbers c = Rattle.visibility.proofs.ForeignLists.foreign_numbers

pub returns-clause-same : goal.returns-clause-same
returns-clause-same c = Rattle.visibility.proofs.ForeignLists.same_is_alike
