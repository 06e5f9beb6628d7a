use Rattle.requests.proofs.CommonNames.{None, sym, subst, Step}
use Rattle.step_types.specs.Plain.{with_handler}
use Rattle.requests.specs.Hosts.{Steps}
use Rattle.requests.specs.Making.{Makes}
use Rattle.user_hosts.proofs.hosts.UserHosts.step.Goals as goal

pub returns : goal.returns
returns g c =
    let unmade : Makes c.args.user None c.args.self.now c.step_without_handler.new.self c.step_without_handler.result =
    subst (λ s. Makes c.args.user (with_handler None s) c.args.self.now c.step_without_handler.new.self c.step_without_handler.result) c.in-Install.is c.step_without_handler.ensures in
    subst (λ s. Steps c.args.user s c.args.self.now c.install.new.self c.install.result) (sym c.in-Install.is)
    (subst (λ m. Steps c.args.user (Step.Install c.in-Install.caller c.in-Install.handler) m c.install.new.self c.install.result) unmade.1 c.install.ensures)
