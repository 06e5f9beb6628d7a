use Rattle.requests.proofs.CommonNames.{length, sym, ap, ◌∙◌}
use Rattle.user_hosts.proofs.Padded.{long}
use Rattle.user_hosts.proofs.own_hosts.OwnHosts.assert_places.Goals as goal

pub returns : goal.returns
returns g c = sym (ap (λ h. length h.made) c.self.view_is) ∙ long c.self.inside.made.items c.self.invariant
