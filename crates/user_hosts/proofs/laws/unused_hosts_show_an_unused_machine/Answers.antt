use Rattle.user_hosts.proofs.laws.unused_hosts_show_an_unused_machine.Goals as goal

pub returns : goal.returns
returns c = Rattle.user_hosts.proofs.Shown.unused_shows
