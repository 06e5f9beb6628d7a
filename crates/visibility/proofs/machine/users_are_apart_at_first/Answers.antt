use Rattle.visibility.proofs.machine.users_are_apart_at_first.Goals as goal

pub returns : goal.returns
returns c = Rattle.visibility.proofs.Apart.users_are_apart_at_first
