use Rattle.user_hosts.proofs.laws.a_copy_is_of_one_user.Goals as goal

pub returns : goal.returns
returns c = Rattle.user_hosts.proofs.Shown.copy_shows
