use Rattle.requests.proofs.CommonNames.{◌≡◌, true, Some, None, option_map, sym, ap, subst, ◌∙◌, sound}
use Rattle.std.specs.Prelude.{box_value, IfSome}
use Rattle.step_types.specs.Plain.{with_handler}
use Rattle.step_types.specs.Replies.{is_refusal}
use Rattle.requests.specs.Making.{Makes}
use Rattle.user_hosts.specs.Hosts.{host_or}
use Rattle.user_hosts.proofs.FirstSteps.{refused_before, unmade}
use Rattle.user_hosts.proofs.own_hosts.UserHost.step_without_handler.Goals as goal

pub returns-clause-makes : goal.returns-clause-makes
returns-clause-makes g c = λ settings. subst (λ o. Makes c.args.user (with_handler None c.args.step.now) (host_or settings o) c.step_without_handler.new.self c.step_without_handler.result)
    (ap Some c.deref_mut.ensures.value ∙ sym (ap (option_map (λ h. box_value h)) c.in-Some.is) ∙ c.self.view_is) c.step_without_handler.ensures

pub returns-clause-none : goal.returns-clause-none
returns-clause-none g c = λ none. ap Some (unmade c.args.user (with_handler None c.args.step.now) c.deref_mut.result.now c.step_without_handler.new.self c.step_without_handler.result c.step_without_handler.ensures none)
    ∙ ap Some c.deref_mut.ensures.value ∙ sym (ap (option_map (λ h. box_value h)) c.in-Some.is) ∙ c.self.view_is

pub returns-clause-refused : goal.returns-clause-refused
returns-clause-refused g c = subst (λ o. IfSome c.step_without_handler.result (λ r. is_refusal r ≡ true → Some c.step_without_handler.new.self ≡ o))
    (ap Some c.deref_mut.ensures.value ∙ sym (ap (option_map (λ h. box_value h)) c.in-Some.is) ∙ c.self.view_is)
    (refused_before c.args.user (with_handler None c.args.step.now) c.deref_mut.result.now c.step_without_handler.new.self c.step_without_handler.result c.step_without_handler.ensures)

pub returns-clause-sound : goal.returns-clause-sound
returns-clause-sound g c = λ settings. subst (λ o. sound (host_or settings o) ≡ true)
    (ap Some c.deref.ensures ∙ sym (ap (option_map (λ h. box_value h)) c.in-Some.is) ∙ c.self.view_is) c.assert_invariant.ensures
