use Rattle.host_lock.proofs.CommonNames.{◌≡◌, ℕ, ◌∙◌, List, [], ◌∷◌, sym, ap, arith, Me, rest, View, Idle, HostSlot, Present, staged}
use Rattle.host_lock.proofs.Turns.{leaves}
use Rattle.host_lock.proofs.turn.give_back.Goals as goal

pub exchange-taken-requires : goal.exchange-taken-requires
exchange-taken-requires g c =
    let out = c.requires.out in
    let held = ap (λ (m : Me (HostSlot g.row.F.Denot g.row.J.Denot) View). m.1) out.3 in
    (c.requires.table.1, (out.1, held ∙ ap (λ (l : List (ℕ × HostSlot g.row.F.Denot g.row.J.Denot)). (0, out.1) ∷ rest l) (sym held)))

pub fetch_add-requires : goal.fetch_add-requires
fetch_add-requires g c =
    let table = c.args.table.now in
    let out = c.requires.out in
    let v = c.args.seat.now.me.0 in
    let m = c.exchange-taken.new.seat.me in
    let now : m ≡ (v, (0, Present c.args.state) ∷ []) = c.exchange-taken.ensures.3 ∙ ap (λ (z : Me (HostSlot g.row.F.Denot g.row.J.Denot) View). (v, (0, Present c.args.state) ∷ rest z.1)) out.3 in (
      c.exchange-taken.ensures.0 ∙ c.requires.table.1,
      omega (arith, c.requires.table.0.0),
      leaves table.key.start.value table.key.sessions table.table_id.slots c.exchange-taken.new.seat.id c.args.number c.args.state out.0 out.1 v m out.2 (ap (λ (z : Me (HostSlot g.row.F.Denot g.row.J.Denot) View). z.0) out.3) now,
    )

pub returns-clause-released : goal.returns-clause-released
returns-clause-released g c =
    let out = c.requires.out in
    c.fetch_add.ensures.2 ∙ ap (λ (m : Me (HostSlot g.row.F.Denot g.row.J.Denot) View). (staged m.0 Idle, [])) c.exchange-taken.ensures.3 ∙ ap (λ (m : Me (HostSlot g.row.F.Denot g.row.J.Denot) View). (staged m.0 Idle, [])) out.3
