use Rattle.std.proofs.Common.{rules, ◌≡◌, [], ◌∷◌, ◌++◌, sym, ◌∙◌}
use Rattle.host_lock.specs.Sessions.{new_sessions}
use Rattle.test_surface_runs.proofs.Two.{two_are_at}
use Rattle.test_surface_runs.proofs.shared_host.pairs.open_two.Goals as goal

pub returns : goal.returns
returns c =
    let host = c.in-Ok.host in
    let start : host.start ≡ c.args.host = search rules in
    let new : c.in-Ok.sessions.items ≡ new_sessions 0 host.id c.args.host (c.args.first ∷ c.args.second ∷ []) = search rules in
    let last : c.in-Ok.sessions.items ≡ c.pop.new.self.items ++ c.in_ok-second.second ∷ [] = search rules in
    let first : c.pop.new.self.items ≡ c.pop-2.new.self.items ++ c.in_ok-first.first ∷ [] = search rules in
    let at = two_are_at host.id c.args.host c.args.first c.args.second c.in-Ok.sessions.items c.pop.new.self.items c.pop-2.new.self.items c.in_ok-first.first c.in_ok-second.second new last first in
    record { first = (at.0.0, at.0.1 ∙ sym start); second = (at.1.0, at.1.1 ∙ sym start) }
