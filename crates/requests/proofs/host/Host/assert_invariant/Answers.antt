use Rattle.requests.proofs.host.Host.assert_invariant.Goals as goal

pub returns : goal.returns
returns g c = rw (← c.self.view_is) c.self.invariant
