use Rattle.requests.proofs.CommonNames.{true≢false, sym, ap, subst, ◌∙◌, Step, empty}
use Rattle.step_types.specs.Replies.{is_refusal}
use Rattle.requests.specs.Hosts.{Steps as HostSteps}
use Rattle.user_hosts.proofs.FirstSteps.{no_memory, no_process, unspawned}
use Rattle.user_hosts.proofs.own_hosts.UserHost.begin.Goals.{in-Some-1, in-None-1}
use Rattle.user_hosts.proofs.own_hosts.UserHost.begin.Goals as goal

pub returns-in_default : goal.returns-in_default
returns-in_default g c = record { steps = rw c.requires.none (no_process c.args.settings c.args.user c.args.step c.in_default.not-Spawn); refused = λ no. c.requires.none }

pub returns-in_default-new_host-clause-steps : goal.returns-in_default-new_host-clause-steps
returns-in_default-new_host-clause-steps g c = rw (c.requires.none, c.in-Spawn.is) (no_memory c.args.user c.get-user.ensures.user c.args.settings)

pub returns-in-New-clause-steps : goal.returns-in-New-clause-steps
returns-in-New-clause-steps g c =
    let made : HostSteps c.args.user Step.Spawn (empty c.args.settings) c.step-reply.new.self c.step-reply.result = subst (λ m. HostSteps c.args.user Step.Spawn m c.step-reply.new.self c.step-reply.result) (c.deref_mut.ensures.value ∙ c.in-Ok.ensures) c.step-reply.ensures in
    elim c.match-self.branch [
      | in-Some-1 w ↦ rw (w.self-is, c.in-Spawn.is) made
      | in-None-1 w ↦ rw (w.self-is, c.in-Spawn.is) made
    ]

pub returns-in-New-clause-refused : goal.returns-in-New-clause-refused
returns-in-New-clause-refused g c = λ no. absurd (true≢false (sym no ∙ ap is_refusal c.in-New.is))

pub returns-in_default-reply : goal.returns-in_default-reply
returns-in_default-reply g c =
    let made : HostSteps c.args.user Step.Spawn (empty c.args.settings) c.step-reply.new.self c.step-reply.result = subst (λ m. HostSteps c.args.user Step.Spawn m c.step-reply.new.self c.step-reply.result) (c.deref_mut.ensures.value ∙ c.in-Ok.ensures) c.step-reply.ensures in
    record {
      steps = rw (c.requires.none, c.in-Spawn.is) (unspawned c.args.user c.get-user.ensures.user c.args.settings c.step-reply.new.self c.step-reply.result made (λ pid tid is. c.in_default-reply.not-New pid tid is));
      refused = λ no. c.requires.none;
    }
