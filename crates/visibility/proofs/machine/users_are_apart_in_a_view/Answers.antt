use Rattle.visibility.proofs.machine.users_are_apart_in_a_view.Goals as goal

pub returns : goal.returns
returns c = Rattle.visibility.proofs.Apart.users_are_apart_in_a_view
