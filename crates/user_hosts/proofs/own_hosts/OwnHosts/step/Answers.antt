use Rattle.requests.proofs.CommonNames.{◌≡◌, ◌<◌, true, get_or, length, length-set, set, refl, sym, ap, subst, ◌∙◌, slot, sound, arith}
use Rattle.user_hosts.specs.Hosts.{Steps, host_of}
use Rattle.user_hosts.proofs.Places.{behind, hosts, nowhere_sound, sound_there, stepped}
use Rattle.user_hosts.proofs.own_hosts.OwnHosts.step.Goals as goal

pub invariant_of-self : goal.invariant_of-self
invariant_of-self g c = omega (arith, length-set c.self.inside.made.items c.slot.result c.step.new.self, c.self.invariant)

pub returns-in-Some-clause-steps : goal.returns-in-Some-clause-steps
returns-in-Some-clause-steps g c =
    let made = c.self.inside.made.items in let settings = c.self.inside.settings in let u = c.args.user in
    let at : slot u < length made = (let below = c.in-Some.ensures.variant.0 refl in let long = c.self.inside.made.ok.0 in let place = c.slot.ensures.place in omega (arith, below, long, place)) in
    let is : c.in-Some.place.now ≡ get_or made (slot u) c.in-Some.place.now = c.in-Some.ensures.value ∙ ap (λ i. get_or made i c.in-Some.place.now) c.slot.ensures.place in
    subst (λ h. Steps u c.args.step h (hosts settings (set made c.slot.result c.step.new.self)) c.step.result) c.self.view_is
    (subst (λ i. Steps u c.args.step (hosts settings made) (hosts settings (set made i c.step.new.self)) c.step.result) (sym c.slot.ensures.place)
    (stepped u settings made c.in-Some.place.now at is c.get-user.ensures.user c.self.invariant c.args.step c.step.new.self c.step.result c.step.ensures.steps c.step.ensures.refused))

pub returns-in-Some-clause-sound : goal.returns-in-Some-clause-sound
returns-in-Some-clause-sound g c =
    let made = c.self.inside.made.items in let u = c.args.user in
    let at : slot u < length made = (let below = c.in-Some.ensures.variant.0 refl in let long = c.self.inside.made.ok.0 in let place = c.slot.ensures.place in omega (arith, below, long, place)) in
    let is : c.in-Some.place.now ≡ get_or made (slot u) c.in-Some.place.now = c.in-Some.ensures.value ∙ ap (λ i. get_or made i c.in-Some.place.now) c.slot.ensures.place in
    subst (λ h. sound (host_of u h) ≡ true) c.self.view_is (sound_there u c.self.inside.settings made c.in-Some.place.now at is c.step.ensures.sound)

pub returns-in-None-clause-steps : goal.returns-in-None-clause-steps
returns-in-None-clause-steps g c = subst (λ h. Steps c.args.user c.args.step h c.begin.new.self c.begin.result) c.self.view_is c.begin.ensures

pub returns-in-None-clause-sound : goal.returns-in-None-clause-sound
returns-in-None-clause-sound g c = subst (λ h. sound (host_of c.args.user h) ≡ true) c.self.view_is
    (nowhere_sound c.args.user c.self.inside.settings c.self.inside.made.items (behind _ _ _ _ c.in-None.ensures.variant.1 c.self.inside.made.ok.0 c.slot.ensures.place))
