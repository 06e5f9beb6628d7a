use Rattle.requests.proofs.CommonNames.{◌≡◌, ◌<◌, get_or, length, length-set, set, refl, sym, ap, subst, ◌∙◌, slot, arith, Step, Reply}
use Rattle.requests.specs.CommonNames.{ENOMEM}
use Rattle.user_hosts.specs.Hosts.{Steps}
use Rattle.user_hosts.proofs.FirstSteps.{no_memory, no_process}
use Rattle.user_hosts.proofs.Places.{hosts, unmoved, stepped}
use Rattle.user_hosts.proofs.own_hosts.OwnHosts.begin.Goals as goal

pub returns-in_default : goal.returns-in_default
returns-in_default g c = unmoved c.args.user c.args.step c.args.self.now c.args.self.now _ c.requires refl (no_process c.args.self.now.settings c.args.user c.args.step c.in_default.not-Spawn)

pub invariant_of-self : goal.invariant_of-self
invariant_of-self g c = omega (arith, length-set c.grow.new.made.items c.slot-slot.result c.step.new.self, c.grow.ensures.few)

pub returns-in-Ok : goal.returns-in-Ok
returns-in-Ok g c =
    let made = c.grow.new.made.items in let settings = c.self.inside.settings in let u = c.args.user in let place = c.slot-slot.ensures.place in
    let at : slot u < length made = (let below = c.in-Ok.ensures.place in omega (arith, below, place)) in
    let is : c.index_mut.result.now ≡ get_or made (slot u) c.index_mut.result.now = c.index_mut.ensures.value ∙ ap (λ i. get_or made i c.index_mut.result.now) place in
    let old : hosts settings made ≡ c.args.self.now = ap (λ xs. record { settings = settings; made = xs }) c.grow.ensures.same ∙ c.self.view_is in
    subst (λ s. Steps u s c.args.self.now (hosts settings (set made c.slot-slot.result c.step.new.self)) c.step.result) (sym c.in-Spawn.is)
    (subst (λ h. Steps u Step.Spawn h (hosts settings (set made c.slot-slot.result c.step.new.self)) c.step.result) old
    (subst (λ i. Steps u Step.Spawn (hosts settings made) (hosts settings (set made i c.step.new.self)) c.step.result) (sym place)
    (stepped u settings made c.index_mut.result.now at is c.get-user.ensures.user c.grow.ensures.few Step.Spawn c.step.new.self c.step.result c.step.ensures.steps c.step.ensures.refused)))

pub returns-in-Err : goal.returns-in-Err
returns-in-Err g c =
    let same : hosts c.self.inside.settings c.grow.new.made.items ≡ c.args.self.now = ap (λ xs. record { settings = c.self.inside.settings; made = xs }) c.grow.ensures.same ∙ c.self.view_is in
    subst (λ s. Steps c.args.user s c.args.self.now (hosts c.self.inside.settings c.grow.new.made.items) (Reply.Errno ENOMEM)) (sym c.in-Spawn.is)
    (unmoved c.args.user Step.Spawn c.args.self.now (hosts c.self.inside.settings c.grow.new.made.items) (Reply.Errno ENOMEM) c.requires same (no_memory c.args.user c.get-user.ensures.user c.args.self.now.settings))
