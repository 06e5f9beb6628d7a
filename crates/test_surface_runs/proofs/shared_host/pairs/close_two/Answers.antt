use Rattle.std.proofs.Common.{rules, ◌≡◌, [], ◌∷◌, All, sym, subst}
use Rattle.host_lock.specs.Sessions.{IsOf}
use Rattle.test_surface_runs.proofs.Two.{all_two}
use Rattle.test_surface_runs.proofs.shared_host.pairs.close_two.Goals as goal

pub close-requires-after_bounds : goal.close-requires-after_bounds
close-requires-after_bounds c κs =
    let is : c.in_ok-sessions.sessions.items ≡ c.args.first ∷ c.args.second ∷ [] = search rules in
    subst (All (IsOf c.args.host)) (sym is) (all_two (IsOf c.args.host) c.args.first c.args.second c.requires.first c.requires.second)
