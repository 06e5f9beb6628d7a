use Rattle.requests.proofs.CommonNames.{subst, Steps}
use Rattle.step_types.specs.declared.step.Step.TheVariants.{Install}
use Rattle.requests.proofs.host.Host.step.Goals as goal

pub returns : goal.returns
returns g c =
    let kept = rw c.in-Install.is at c.step_without_handler.ensures in
    rw c.in-Install.is (subst (λ m. Steps c.args.user (Install c.in-Install.caller c.in-Install.handler) m c.install.new.self c.install.result) kept.1 c.install.ensures)
