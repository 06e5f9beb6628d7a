use Rattle.std.proofs.Common.{rules, ◌≡◌, [], ◌∷◌, All, sym, subst}
use Rattle.host_lock.specs.Sessions.{IsOf}
use Rattle.test_surface_runs.proofs.Two.{all_one}
use Rattle.test_surface_runs.proofs.shared_host.pairs.close_one.Goals as goal

pub close-requires-after_bounds : goal.close-requires-after_bounds
close-requires-after_bounds c κs =
    let is : c.in_ok-sessions.sessions.items ≡ c.args.session ∷ [] = search rules in
    subst (All (IsOf c.args.host)) (sym is) (all_one (IsOf c.args.host) c.args.session c.requires)
