use Rattle.host_lock.proofs.CommonNames.{rules, ◌≡◌, ℕ, ◌-◌, ◌+◌, ◌++◌, [], ◌∷◌, List, ap, subst, ◌∙◌, arith, Me, Machine, Idle, View, HostSlot, session_view, both, Each, max_calls, SessionData, IsAt, gathered}
use Rattle.host_lock.proofs.Totals.{each_right}
use Rattle.host_lock.proofs.Turns.{joins}
use Rattle.host_lock.proofs.Closings.{pops, joined}
use Rattle.host_lock.proofs.host.join_seats.Goals as goal

pub join_seat-requires : goal.join_seat-requires
join_seat-requires g c =
    let shared = c.args.table.now.shared in
    let inv = c.loop-session.invariant in
    let s : SessionData = c.in-Some-pop.session in
    let popped : c.loop-session.sessions.items ≡ c.pop-in-loop-session.new.self.items ++ s ∷ [] = search rules in
    let p = pops (IsAt shared.table_id shared.key.start.value) c.args.sessions.items c.loop-session.sessions.items c.pop-in-loop-session.new.self.items inv.1.0 s c.requires.sessions inv.1.2 popped in (
      inv.0,
      c.into_seat.ensures.0 ∙ p.0.0,
      ap (λ (m : Me (HostSlot g.row.F.Denot g.row.J.Denot) View). m.1) c.into_seat.ensures.1,
      omega (arith, c.requires.table.0),
      joins shared.key.start.value shared.key.sessions c.loop-session.seat.id c.into_seat.result.id c.loop-session.seat.me.0 c.into_seat.result.me.0 (ap (λ (m : Me (HostSlot g.row.F.Denot g.row.J.Denot) View). m.0.stage) inv.1.3) (ap (λ (m : Me (HostSlot g.row.F.Denot g.row.J.Denot) View). m.0.stage) c.into_seat.ensures.1),
    )

pub loop-session-preserved : goal.loop-session-preserved
loop-session-preserved g c =
    let shared = c.args.table.now.shared in
    let h = shared.key.start.value in
    let inv = c.loop-session.invariant in
    let s : SessionData = c.in-Some-pop.session in
    let order : List SessionData = inv.1.0 in
    let b : ℕ = inv.1.1 in
    let popped : c.loop-session.sessions.items ≡ c.pop-in-loop-session.new.self.items ++ s ∷ [] = search rules in
    let p = pops (IsAt shared.table_id h) c.args.sessions.items c.loop-session.sessions.items c.pop-in-loop-session.new.self.items order s c.requires.sessions inv.1.2 popped in
    let left : c.loop-session.seat.me.0 ≡ gathered h order b = ap (λ (m : Me (HostSlot g.row.F.Denot g.row.J.Denot) View). m.0) inv.1.3 in
    let right : c.into_seat.result.me.0 ≡ session_view h Idle (max_calls - s.calls) s.known s.number s.mine =
    ap (λ (m : Me (HostSlot g.row.F.Denot g.row.J.Denot) View). m.0) c.into_seat.ensures.1 ∙ ap (λ (z : Machine). session_view z Idle (max_calls - s.calls) s.known s.number s.mine) p.0.1 in
    let held = ap (λ (m : Me (HostSlot g.row.F.Denot g.row.J.Denot) View). m.1) inv.1.3 in (
      c.join_seat.ensures.0 ∙ inv.0,
      (order ++ s ∷ [], b + (max_calls - s.calls), p.1, c.join_seat.ensures.2 ∙ (λ j. ((ap (λ (z : View × View). both z.0 z.1) (λ i. (left i, right i)) ∙ joined h order s b (max_calls - s.calls)) j, held j))),
    )

pub loop-session-init : goal.loop-session-init
loop-session-init g c =
    let s : SessionData = c.in-Some.first in
    let h = c.args.table.now.shared.key.start.value in
    let popped : c.args.sessions.items ≡ c.pop.new.self.items ++ s ∷ [] = search rules in
    let at = (each_right (IsAt c.args.table.now.shared.table_id h) c.pop.new.self.items (s ∷ []) (subst (Each (IsAt c.args.table.now.shared.table_id h)) popped c.requires.sessions)).0 in (
      c.into_seat-seat.ensures.0 ∙ at.0,
      (s ∷ [], max_calls - s.calls, popped, c.into_seat-seat.ensures.1 ∙ ap (λ (z : Machine). (session_view z Idle (max_calls - s.calls) s.known s.number s.mine, [])) at.1),
    )
