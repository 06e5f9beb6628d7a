use Rattle.requests.proofs.CommonNames.{sym, ap, ◌∙◌}
use Rattle.user_hosts.proofs.hosts.UserHosts.settings.Goals as goal

pub returns : goal.returns
returns g c = c.settings.ensures ∙ sym c.self.invariant.settings ∙ ap (λ m. m.settings) c.self.view_is
