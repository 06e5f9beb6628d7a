use Rattle.requests.proofs.CommonNames.{◌≡◌, refl, sym, ap, subst, ◌∙◌}
use Rattle.user_hosts.specs.Made.{CopiesUser, machine_after}
use Rattle.user_hosts.proofs.MadeLemmas.{copies, kept_copied}
use Rattle.user_hosts.proofs.hosts.UserHosts+ByPolicy.copy_user.Goals as goal

pub invariant_of-self-2 : goal.invariant_of-self-2
invariant_of-self-2 g c =
    let same : c.self.inside.hosts.settings ≡ c.source.inside.hosts.settings = sym c.settings.ensures ∙ c.if-not-same_settings.ensures.0 refl ∙ c.settings-2.ensures in
    rw (c.in_ok-copy_user.ensures.done, c.with_user-self-inside.ensures)
    (kept_copied c.args.user c.self.inside.hosts c.source.inside.hosts c.self.inside.made.steps c.source.inside.made.steps c.get-user.ensures.user c.assert_places.ensures same c.self.invariant c.source.invariant)

pub returns-clause-done : goal.returns-clause-done
returns-clause-done g c =
    let u = c.args.user in let old = c.self.inside.hosts in let source = c.source.inside.hosts in
    let same : old.settings ≡ source.settings = sym c.settings.ensures ∙ c.if-not-same_settings.ensures.0 refl ∙ c.settings-2.ensures in
    let is : machine_after c.copy_user.new.self.settings c.with_user-self-inside.result.steps ≡ machine_after old.settings c.with_user-self-inside.result.steps = ap (λ h. machine_after h.settings c.with_user-self-inside.result.steps) c.in_ok-copy_user.ensures.done in
    subst (λ m. CopiesUser u m c.args.source.now (machine_after c.copy_user.new.self.settings c.with_user-self-inside.result.steps)) c.self.view_is
    (subst (λ m. CopiesUser u (machine_after old.settings c.self.inside.made.steps) m (machine_after c.copy_user.new.self.settings c.with_user-self-inside.result.steps)) c.source.view_is
    (subst (λ m. CopiesUser u (machine_after old.settings c.self.inside.made.steps) (machine_after source.settings c.source.inside.made.steps) m) (sym (is ∙ ap (machine_after old.settings) c.with_user-self-inside.ensures))
    (copies u old source c.self.inside.made.steps c.source.inside.made.steps c.get-user.ensures.user c.assert_places.ensures same c.self.invariant c.source.invariant)))
