use Rattle.requests.proofs.CommonNames.{◌≡◌, Some, None, option_map, sym, ap, subst, ◌∙◌, empty}
use Rattle.std.specs.Prelude.{IfOk}
use Rattle.requests.specs.View.{view}
use Rattle.user_hosts.specs.Hosts.{made_of, host_or}
use Rattle.user_hosts.proofs.hosts.UserHosts.view.Goals as goal

pub returns-in-Some-clause-view : goal.returns-in-Some-clause-view
returns-in-Some-clause-view g c =
    let made : made_of c.args.user c.self.inside.hosts ≡ Some c.in-Some.host.now = sym c.host.ensures ∙ ap (option_map (λ h. h.now)) c.in-Some.is in
    subst (λ seen. IfOk c.user_view.result (λ v. v ≡ seen))
    (ap (λ o. view c.args.user (host_or c.self.inside.hosts.settings o)) (sym made) ∙ c.self.invariant.shows.same c.args.user c.get-user.ensures.user ∙ ap (view c.args.user) c.self.view_is) c.user_view.ensures.view

pub returns-in_ok-host-in-None-clause-view : goal.returns-in_ok-host-in-None-clause-view
returns-in_ok-host-in-None-clause-view g c =
    let made : made_of c.args.user c.self.inside.hosts ≡ None = sym c.host.ensures ∙ ap (option_map (λ h. h.now)) c.in-None.is in
    subst (λ seen. IfOk c.user_view-in-None.result (λ v. v ≡ seen))
    (ap (view c.args.user) (c.in_ok-host-in-None.ensures ∙ ap empty c.settings.ensures) ∙ ap (λ o. view c.args.user (host_or c.self.inside.hosts.settings o)) (sym made)
    ∙ c.self.invariant.shows.same c.args.user c.get-user.ensures.user ∙ ap (view c.args.user) c.self.view_is) c.user_view-in-None.ensures.view
