use Rattle.requests.proofs.CommonNames.{◌≡◌, ◌<◌, length, set, sym, ap, ◌∙◌, slot, arith}
use Rattle.user_hosts.specs.Hosts.{copied, made_of}
use Rattle.user_hosts.proofs.Padded.{written}
use Rattle.user_hosts.proofs.Places.{hosts}
use Rattle.user_hosts.proofs.own_hosts.OwnHosts+ByPolicy.copy_user.Goals as goal

pub returns-clause-done : goal.returns-clause-done
returns-clause-done g c =
    let made = c.grow.new.made.items in let settings = c.self.inside.settings in let u = c.args.user in let place = c.slot-slot.ensures.place in
    let at : slot u < length made = (let below = c.in_ok-grow.ensures.place in omega (arith, below, place)) in
    let copy : c.replace-before.new.dest ≡ made_of u c.args.source.now = c.replace-before.ensures.after ∙ c.in_ok-host.ensures.copied ∙ c.host.ensures in
    ap (λ i. hosts settings (set made i c.replace-before.new.dest)) place ∙ ap (λ o. hosts settings (set made (slot u) o)) copy
    ∙ ap (λ xs. record { settings = settings; made = xs }) (sym (written made (slot u) (made_of u c.args.source.now) at) ∙ ap (λ xs. set xs (slot u) (made_of u c.args.source.now)) c.grow.ensures.same)
    ∙ ap (λ h. copied u h c.args.source.now) (c.self.view_is ∙ c.copy_of.ensures.unchanged)
