use Rattle.requests.proofs.CommonNames.{◌≡◌, ◌<◌, true, None, get_or, length, length-set, set, refl, sym, ap, subst, ◌∙◌, slot, sound, arith}
use Rattle.step_types.specs.Plain.{with_handler}
use Rattle.user_hosts.specs.Hosts.{MakesIn, host_of}
use Rattle.user_hosts.proofs.Places.{behind, hosts, nowhere_sound, sound_there, makes_in}
use Rattle.user_hosts.proofs.own_hosts.OwnHosts.step_without_handler.Goals as goal

pub invariant_of-self : goal.invariant_of-self
invariant_of-self g c = omega (arith, length-set c.self.inside.made.items c.slot.result c.step_without_handler.new.self, c.self.invariant)

pub returns-clause-makes : goal.returns-clause-makes
returns-clause-makes g c =
    let made = c.self.inside.made.items in let settings = c.self.inside.settings in let u = c.args.user in let s = with_handler None c.args.step.now in
    let at : slot u < length made = (let below = c.in-Some.ensures.variant.0 refl in let long = c.self.inside.made.ok.0 in let place = c.slot.ensures.place in omega (arith, below, long, place)) in
    let is : c.in-Some.place.now ≡ get_or made (slot u) c.in-Some.place.now = c.in-Some.ensures.value ∙ ap (λ i. get_or made i c.in-Some.place.now) c.slot.ensures.place in
    subst (λ h. MakesIn u s h (hosts settings (set made c.slot.result c.step_without_handler.new.self)) c.step_without_handler.result) c.self.view_is
    (subst (λ i. MakesIn u s (hosts settings made) (hosts settings (set made i c.step_without_handler.new.self)) c.step_without_handler.result) (sym c.slot.ensures.place)
    (makes_in u settings made c.in-Some.place.now at is c.get-user.ensures.user c.self.invariant s c.step_without_handler.new.self c.step_without_handler.result
    (c.step_without_handler.ensures.makes settings) c.step_without_handler.ensures.none c.step_without_handler.ensures.refused))

pub returns-clause-sound : goal.returns-clause-sound
returns-clause-sound g c =
    let made = c.self.inside.made.items in let u = c.args.user in
    let at : slot u < length made = (let below = c.in-Some.ensures.variant.0 refl in let long = c.self.inside.made.ok.0 in let place = c.slot.ensures.place in omega (arith, below, long, place)) in
    let is : c.in-Some.place.now ≡ get_or made (slot u) c.in-Some.place.now = c.in-Some.ensures.value ∙ ap (λ i. get_or made i c.in-Some.place.now) c.slot.ensures.place in
    subst (λ h. sound (host_of u h) ≡ true) c.self.view_is (sound_there u c.self.inside.settings made c.in-Some.place.now at is (c.step_without_handler.ensures.sound c.self.inside.settings))
