use Rattle.requests.proofs.CommonNames.{◌≡◌, true, Some, option_map, sym, ap, subst, ◌∙◌, sound}
use Rattle.std.specs.Prelude.{box_value}
use Rattle.requests.specs.Hosts.{Steps as HostSteps}
use Rattle.requests.proofs.SoundAfterSpawn.{empty_sound}
use Rattle.user_hosts.specs.Hosts.{host_or}
use Rattle.user_hosts.proofs.own_hosts.UserHost.step.Goals as goal

pub returns-in-Some-clause-steps : goal.returns-in-Some-clause-steps
returns-in-Some-clause-steps g c = subst (λ o. HostSteps c.args.user c.args.step (host_or c.args.settings o) c.step.new.self c.step.result)
    (ap Some c.deref_mut.ensures.value ∙ sym (ap (option_map (λ h. box_value h)) c.in-Some.is) ∙ c.self.view_is) c.step.ensures

pub returns-in-Some-clause-refused : goal.returns-in-Some-clause-refused
returns-in-Some-clause-refused g c = λ no. ap Some (c.step.ensures.refused no) ∙ ap Some c.deref_mut.ensures.value ∙ sym (ap (option_map (λ h. box_value h)) c.in-Some.is) ∙ c.self.view_is

pub returns-in-Some-clause-sound : goal.returns-in-Some-clause-sound
returns-in-Some-clause-sound g c = subst (λ o. sound (host_or c.args.settings o) ≡ true)
    (ap Some c.deref.ensures ∙ sym (ap (option_map (λ h. box_value h)) c.in-Some.is) ∙ c.self.view_is) c.assert_invariant.ensures

pub returns-in-None-clause-steps : goal.returns-in-None-clause-steps
returns-in-None-clause-steps g c = subst (λ o. HostSteps c.args.user c.args.step (host_or c.args.settings o) (host_or c.args.settings c.begin.new.self) c.begin.result)
    (sym (ap (option_map (λ h. box_value h)) c.in-None.is) ∙ c.self.view_is) c.begin.ensures.steps

pub returns-in-None-clause-refused : goal.returns-in-None-clause-refused
returns-in-None-clause-refused g c = λ no. c.begin.ensures.refused no ∙ sym (ap (option_map (λ h. box_value h)) c.in-None.is) ∙ c.self.view_is

pub returns-in-None-clause-sound : goal.returns-in-None-clause-sound
returns-in-None-clause-sound g c = subst (λ o. sound (host_or c.args.settings o) ≡ true) (sym (ap (option_map (λ h. box_value h)) c.in-None.is) ∙ c.self.view_is) (empty_sound c.args.settings)
