use Rattle.user_hosts.proofs.laws.many_are_one.Goals as goal

pub returns : goal.returns
returns c = Rattle.user_hosts.proofs.Views.many_are_one
