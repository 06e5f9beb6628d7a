use Rattle.requests.proofs.CommonNames.{◌≡◌, true, None, refl, sym, ap, subst, ◌∙◌, sound}
use Rattle.step_types.specs.Plain.{with_handler}
use Rattle.requests.specs.Making.{Makes}
use Rattle.user_hosts.specs.Hosts.{MakesIn, host_of}
use Rattle.user_hosts.specs.Made.{Kept, machine_after, one_more_without_handler}
use Rattle.user_hosts.proofs.MadeLemmas.{kept_made, makes_so}
use Rattle.user_hosts.proofs.hosts.UserHosts.step_without_handler.Goals.{then-has_host, else-has_host}
use Rattle.user_hosts.proofs.hosts.UserHosts.step_without_handler.Goals as goal

pub invariant_of-self : goal.invariant_of-self
invariant_of-self g c =
    let u = c.args.user in let s = with_handler None c.args.step.now in let old = c.self.inside.hosts in let new = c.if-has_host.self-inside.hosts in let r = c.if-has_host.reply in
    let steps = c.self.inside.made.steps in
    let made : MakesIn u s old new r × (sound (host_of u old) ≡ true) × (c.if-has_host.self-inside.made.steps ≡ steps) = elim c.if-has_host.branch [
      | then-has_host w ↦ rw (w.self-inside-is, w.reply-is) (w.step_without_handler-reply.ensures.makes, w.step_without_handler-reply.ensures.sound, refl)
      | else-has_host w ↦ rw (w.self-inside-is, w.reply-is) (w.begin_without_handler-reply.ensures.makes, w.begin_without_handler-reply.ensures.sound, refl)
    ] in
    subst (Kept new) (sym (c.one_more_without_handler-self-inside.ensures ∙ ap (one_more_without_handler u s r) made.2))
    (kept_made u s old new steps r c.get-user.ensures.user c.fits.ensures made.1 c.self.invariant made.0)

pub returns : goal.returns
returns g c =
    let u = c.args.user in let s = with_handler None c.args.step.now in let old = c.self.inside.hosts in let new = c.if-has_host.self-inside.hosts in let r = c.if-has_host.reply in
    let steps = c.self.inside.made.steps in
    let made : MakesIn u s old new r × (sound (host_of u old) ≡ true) × (c.if-has_host.self-inside.made.steps ≡ steps) = elim c.if-has_host.branch [
      | then-has_host w ↦ rw (w.self-inside-is, w.reply-is) (w.step_without_handler-reply.ensures.makes, w.step_without_handler-reply.ensures.sound, refl)
      | else-has_host w ↦ rw (w.self-inside-is, w.reply-is) (w.begin_without_handler-reply.ensures.makes, w.begin_without_handler-reply.ensures.sound, refl)
    ] in
    subst (λ m. Makes u s m (machine_after new.settings c.one_more_without_handler-self-inside.result.steps) r) c.self.view_is
    (subst (λ after. Makes u s (machine_after old.settings steps) (machine_after new.settings after) r) (sym (c.one_more_without_handler-self-inside.ensures ∙ ap (one_more_without_handler u s r) made.2))
    (makes_so u s old new steps r c.get-user.ensures.user c.fits.ensures made.1 c.self.invariant made.0))
