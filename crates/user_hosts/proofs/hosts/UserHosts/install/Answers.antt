use Rattle.requests.proofs.CommonNames.{refl, sym, ap, subst, ◌∙◌, Step}
use Rattle.requests.specs.Hosts.{Steps as HostSteps}
use Rattle.user_hosts.specs.Made.{Kept, machine_after, one_more}
use Rattle.user_hosts.proofs.MadeLemmas.{kept_after, made_so}
use Rattle.user_hosts.proofs.hosts.UserHosts.install.Goals as goal

pub invariant_of-self : goal.invariant_of-self
invariant_of-self g c =
    let more = c.one_more-self-inside.ensures ∙ ap (λ policy. one_more c.args.user (Step.Install c.args.caller policy) c.step-reply.result c.self.inside.made.steps) c.policy.ensures in
    subst (Kept c.step-reply.new.self) (sym more) (kept_after c.args.user (Step.Install c.args.caller c.args.handler) c.self.inside.hosts c.step-reply.new.self c.self.inside.made.steps c.step-reply.result
    c.get-user.ensures.user refl c.step-reply.ensures.sound c.self.invariant c.step-reply.ensures.steps)

pub returns : goal.returns
returns g c =
    let u = c.args.user in let s = Step.Install c.args.caller c.args.handler in let old = c.self.inside.hosts in let new = c.step-reply.new.self in
    let more = c.one_more-self-inside.ensures ∙ ap (λ policy. one_more c.args.user (Step.Install c.args.caller policy) c.step-reply.result c.self.inside.made.steps) c.policy.ensures in
    subst (λ m. HostSteps u s m (machine_after new.settings c.one_more-self-inside.result.steps) c.step-reply.result) c.self.view_is
    (subst (λ made. HostSteps u s (machine_after old.settings c.self.inside.made.steps) (machine_after new.settings made) c.step-reply.result) (sym more)
    (made_so u s old new c.self.inside.made.steps c.step-reply.result c.get-user.ensures.user refl c.step-reply.ensures.sound c.self.invariant c.step-reply.ensures.steps))
