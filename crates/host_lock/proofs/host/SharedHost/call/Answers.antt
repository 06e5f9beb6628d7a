use Rattle.host_lock.proofs.CommonNames.{◌≡◌, [], ◌∷◌, rules}
use Rattle.host_lock.proofs.Journey.{badge_settles}
use Rattle.host_lock.proofs.host.SharedHost.call.Goals as goal

pub invariant_of-session : goal.invariant_of-session
invariant_of-session g c = c.session.invariant

pub invariant_of-session-2 : goal.invariant_of-session-2
invariant_of-session-2 g c =
    let s = c.session.inside in
    let was : s.badge.views ≡ c.into_seat-seat.result.me.0 ∷ [] = search rules in
    let t = badge_settles s.number s.calls_made s.uid (g.H.OwnHandler.plain c.args.step) c.serve-reply.result s.badge.views c.into_badge.result.views c.into_seat-seat.result.me c.serve-reply.new.seat.me c.session.invariant.1 was c.serve-reply.ensures.turned c.into_badge.ensures.2 in
    (t.0, t.1.0, t.1.1, t.1.2)

pub returns-clause-told : goal.returns-clause-told
returns-clause-told g c =
    let s = c.session.inside in
    let was : s.badge.views ≡ c.into_seat-seat.result.me.0 ∷ [] = search rules in
    let t = badge_settles s.number s.calls_made s.uid (g.H.OwnHandler.plain c.args.step) c.serve-reply.result s.badge.views c.into_badge.result.views c.into_seat-seat.result.me c.serve-reply.new.seat.me c.session.invariant.1 was c.serve-reply.ensures.turned c.into_badge.ensures.2 in
    (t.1.1, t.1.2)
