use Rattle.host_lock.proofs.CommonNames.{rules, ◌≡◌, ℕ, ◌+◌, ◌-◌, ◌<◌, ◌++◌, [], ◌∷◌, length, get_or, sym, ap, ◌∙◌, arith, get_or_default, Me, Machine, View, Idle, HostSlot, fresh_view, session_view, start_of, max_calls, SessionData}
use Rattle.host_lock.proofs.CommonNames.{new_session}
use Rattle.host_lock.proofs.Openings.{splits_one, left_is, right_is, one_more}
use Rattle.host_lock.proofs.host.make_sessions.Goals as goal

pub split_seat-later-requires : goal.split_seat-later-requires
split_seat-later-requires g c =
    let shared = c.args.table.now.shared in
    let inv = c.loop-i.invariant in (
      inv.table ∙ c.requires.table.1,
      omega (arith, c.requires.table.0.0),
      splits_one g.row.F.Denot g.row.J.Denot shared.key.start.value (start_of c.args.unsplit.me.0) shared.key.sessions c.loop-i.unsplit.id c.loop-i.i (length c.args.users.now - c.loop-i.i) c.loop-i.unsplit.me.0 (omega arith) (ap (λ (m : Me (HostSlot g.row.F.Denot g.row.J.Denot) View). m.0) inv.seat),
    )

pub loop-i-preserved : goal.loop-i-preserved
loop-i-preserved g c =
    let inv = c.loop-i.invariant in
    let r = start_of c.args.unsplit.me.0 in
    let k : ℕ = length c.args.users.now - c.loop-i.i in
    let some_left : 0 < k = omega arith in
    let v : View = c.loop-i.unsplit.me.0 in
    let was : v ≡ fresh_view r c.loop-i.i k = ap (λ (m : Me (HostSlot g.row.F.Denot g.row.J.Denot) View). m.0) inv.seat in
    let split = c.split_seat-later.ensures in
    let left : c.split_seat-later.new.seat.me.0 ≡ session_view r Idle max_calls [] c.loop-i.i [] = left_is r c.loop-i.i k v c.split_seat-later.new.seat.me.0 some_left was (ap (λ (m : Me (HostSlot g.row.F.Denot g.row.J.Denot) View). m.0) split.2) in
    let less : k - 1 ≡ length c.args.users.now - (c.loop-i.i + 1) = omega arith in
    let right : c.split_seat-later.result.me.0 ≡ fresh_view r (c.loop-i.i + 1) (k - 1) = right_is r c.loop-i.i k v c.split_seat-later.result.me.0 some_left was (ap (λ (m : Me (HostSlot g.row.F.Denot g.row.J.Denot) View). m.0) split.4) in
    let none_held = ap (λ (m : Me (HostSlot g.row.F.Denot g.row.J.Denot) View). m.1) split.4 in
    let start_is : start_of c.split_seat-later.new.seat.me.0 ≡ r = ap start_of left in
    let listed : c.index-users-i.result ≡ get_or c.args.users.now c.loop-i.i c.index-users-i.result = search rules in
    let user : c.index-users-i.result ≡ get_or c.args.users.now c.loop-i.i 0 = listed ∙ get_or_default c.args.users.now c.loop-i.i c.index-users-i.result 0 (omega arith) in
    let new : c.make_session.result ≡ new_session (get_or c.args.users.now c.loop-i.i 0) c.loop-i.i c.args.unsplit.table_id r =
    c.make_session.ensures ∙ (λ j. new_session (user j) c.loop-i.i ((split.0 ∙ inv.table) j) (start_is j)) in record {
      table = split.3 ∙ inv.table;
      seat = λ j. ((right ∙ ap (fresh_view r (c.loop-i.i + 1)) less) j, none_held j);
      made = one_more c.args.users.now c.loop-i.i c.args.unsplit.table_id r c.loop-i.sessions.items c.push_reserved.new.self.items (omega arith) inv.made (c.push_reserved.ensures.items ∙ ap (λ (s : SessionData). c.loop-i.sessions.items ++ s ∷ []) new);
      len = omega arith;
      room = omega arith;
    }

pub make_session-requires-after_bounds : goal.make_session-requires-after_bounds
make_session-requires-after_bounds g c =
    let inv = c.loop-i.invariant in
    let r = start_of c.args.unsplit.me.0 in
    let k : ℕ = length c.args.users.now - c.loop-i.i in
    let some_left : 0 < k = omega arith in
    let was : c.loop-i.unsplit.me.0 ≡ fresh_view r c.loop-i.i k = ap (λ (m : Me (HostSlot g.row.F.Denot g.row.J.Denot) View). m.0) inv.seat in
    let split = c.split_seat-later.ensures in
    let left : c.split_seat-later.new.seat.me.0 ≡ session_view r Idle max_calls [] c.loop-i.i [] = left_is r c.loop-i.i k c.loop-i.unsplit.me.0 c.split_seat-later.new.seat.me.0 some_left was (ap (λ (m : Me (HostSlot g.row.F.Denot g.row.J.Denot) View). m.0) split.2) in
    let none_held = ap (λ (m : Me (HostSlot g.row.F.Denot g.row.J.Denot) View). m.1) split.2 ∙ ap (λ (m : Me (HostSlot g.row.F.Denot g.row.J.Denot) View). m.1) inv.seat in
    let start_is : start_of c.split_seat-later.new.seat.me.0 ≡ r = ap start_of left in
    λ κs within. λ j. ((left ∙ ap (λ (z : Machine). session_view z Idle max_calls [] c.loop-i.i []) (sym start_is)) j, none_held j)
