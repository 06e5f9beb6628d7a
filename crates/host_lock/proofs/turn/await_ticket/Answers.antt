use Rattle.host_lock.proofs.CommonNames.{◌≡◌, ◌≢◌, ◌∙◌, sym, ap, subst, arith, length, rules, Me, View, HostSlot, TakesSlot, has_slot}
use Rattle.host_lock.proofs.Turns.{IsWaiting, looks, takes_slot, waits_on}
use Rattle.host_lock.proofs.turn.await_ticket.Goals as goal

pub load-serving-requires : goal.load-serving-requires
load-serving-requires g c =
    let table = c.args.table.now in
    let waits : IsWaiting c.args.number c.args.ticket c.loop.seat.me = subst (IsWaiting c.args.number c.args.ticket) (sym c.loop.invariant.3) c.requires.waits in
    let one : length c.loop.seat.me.0.owns ≡ 1 = ap (λ (m : Me (HostSlot g.row.F.Denot g.row.J.Denot) View). length m.0.owns) waits in (
      c.loop.invariant.2 ∙ c.requires.table.1,
      omega (arith, c.requires.table.0.0),
      looks table.key.start.value table.key.sessions table.table_id.slots c.loop.seat.id c.loop.seat.me (ap (λ (m : Me (HostSlot g.row.F.Denot g.row.J.Denot) View). has_slot m.0.stage) waits) (omega arith),
    )

pub returns-then-serving-ticket-clause-taken : goal.returns-then-serving-ticket-clause-taken
returns-then-serving-ticket-clause-taken g c =
    let waits : IsWaiting c.args.number c.args.ticket c.loop.seat.me = subst (IsWaiting c.args.number c.args.ticket) (sym c.loop.invariant.3) c.requires.waits in
    let found : c.load-serving.result ≡ c.args.ticket = search rules in
    subst (λ (m : Me (HostSlot g.row.F.Denot g.row.J.Denot) View). TakesSlot m.0 c.args.number c.args.ticket c.load-serving.new.seat.me) c.loop.invariant.3
    (takes_slot c.args.table.now.table_id.slots c.args.number c.args.ticket c.load-serving.result c.loop.seat.me c.load-serving.new.seat.me waits c.load-serving.ensures.2 found)

pub loop-preserved : goal.loop-preserved
loop-preserved g c =
    let waits : IsWaiting c.args.number c.args.ticket c.loop.seat.me = subst (IsWaiting c.args.number c.args.ticket) (sym c.loop.invariant.3) c.requires.waits in
    let missed : c.load-serving.result ≢ c.args.ticket = search rules in
    (tt, tt, c.load-serving.ensures.0 ∙ c.loop.invariant.2, waits_on c.args.table.now.table_id.slots c.args.number c.args.ticket c.load-serving.result c.loop.seat.me c.load-serving.new.seat.me waits c.load-serving.ensures.2 missed ∙ c.loop.invariant.3)
