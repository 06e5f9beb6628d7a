use Rattle.host_lock.proofs.CommonNames.{◌≡◌, List, ap, sym, subst, ◌∙◌, Machine, PlainStep}
use Rattle.requests.specs.Hosts.{Steps}
use Rattle.step_types.specs.{Plain.map_handler, declared.step.Step.Step}
use Rattle.stop_handlers.specs.declared.Rule.{Rule}
use Rattle.host_lock.proofs.Boxed.{made_mapped}
use Rattle.host_lock.proofs.step.make.Goals as goal

pub returns-in-Some : goal.returns-in-Some
returns-in-Some g c =
    subst (λ s. Steps c.args.user s c.args.host.now c.step_without_handler.new.self c.in-Some.reply) (sym (g.met.H.OwnHandler.plain_is c.args.step)) (made_mapped g.H.OwnHandler.policy c.args.user c.args.step c.args.host.now c.step_without_handler.new.self c.in-Some.reply (rw c.in-Some.is at c.step_without_handler.ensures))

pub returns : goal.returns
returns g c =
    let kept = rw c.in-Install.is at c.step_without_handler.ensures in
    let is : g.H.OwnHandler.plain c.args.step ≡ Step.Install c.in-Install.caller c.into_handler-handler.result =
    g.met.H.OwnHandler.plain_is c.args.step ∙ ap (map_handler g.H.OwnHandler.policy) c.in-Install.is ∙ ap (λ (h : List Rule). Step.Install c.in-Install.caller h) (sym c.into_handler-handler.ensures) in
    let did = subst (λ (s : PlainStep). Steps c.args.user s c.step_without_handler.new.self c.step.new.self c.step.result) (sym is) c.step.ensures in
    subst (λ (m : Machine). Steps c.args.user (g.H.OwnHandler.plain c.args.step) m c.step.new.self c.step.result) kept.1 did
