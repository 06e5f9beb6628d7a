use Rattle.user_hosts.proofs.hosts.UserHosts.copy.Goals as goal

pub invariant_of-result : goal.invariant_of-result
invariant_of-result g c = rw (c.in_ok-copy_from.ensures.done, c.same.ensures) c.self.invariant

pub returns : goal.returns
returns g c = rw (c.in_ok-copy_from.ensures.done, c.same.ensures) c.self.view_is
