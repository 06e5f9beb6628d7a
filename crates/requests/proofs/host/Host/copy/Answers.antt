use Rattle.requests.proofs.host.Host.copy.Goals as goal

pub invariant_of-result : goal.invariant_of-result
invariant_of-result g c = rw (c.in_ok-tables.ensures.cases, c.in_ok-handlers.ensures) c.self.invariant

pub returns : goal.returns
returns g c = rw (c.in_ok-tables.ensures.cases, c.in_ok-handlers.ensures) c.self.view_is
