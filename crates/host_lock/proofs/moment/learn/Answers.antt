use Rattle.host_lock.proofs.CommonNames.{◌∙◌, ◌≡◌, ap, arith, length, Me, has_slot, known_of, View, HostSlot}
use Rattle.host_lock.proofs.Moments.{joined_is, has_learned}
use Rattle.host_lock.proofs.Turns.{joins, looks}
use Rattle.host_lock.proofs.moment.learn.Goals as goal

pub join_seat-requires : goal.join_seat-requires
join_seat-requires g c =
    let table = c.args.table.now in
    let seat = c.args.seat.now in (
      c.requires.table.1,
      c.requires.table.2,
      ap (λ (m : Me (HostSlot g.row.F.Denot g.row.J.Denot) View). m.1) c.requires.shown,
      omega (arith, c.requires.table.0.0),
      joins table.key.start.value table.key.sessions seat.id c.args.shown.id seat.me.0 c.args.shown.me.0 (ap (λ (m : Me (HostSlot g.row.F.Denot g.row.J.Denot) View). m.0.stage) c.requires.rests) (ap (λ (m : Me (HostSlot g.row.F.Denot g.row.J.Denot) View). m.0.stage) c.requires.shown),
    )

pub load-requires : goal.load-requires
load-requires g c =
    let table = c.args.table.now in
    let seat = c.join_seat.new.seat in
    let joined = joined_is c.args.number c.args.seat.now.me c.args.shown.me seat.me c.requires.rests c.requires.shown c.join_seat.ensures.2 in
    let one : length seat.me.0.owns ≡ 1 = ap (λ (m : Me (HostSlot g.row.F.Denot g.row.J.Denot) View). length m.0.owns) joined in (
      c.join_seat.ensures.0 ∙ c.requires.table.1,
      omega (arith, c.requires.table.0.0),
      looks table.key.start.value table.key.sessions table.table_id.slots seat.id seat.me (ap (λ (m : Me (HostSlot g.row.F.Denot g.row.J.Denot) View). has_slot m.0.stage) joined) (omega arith),
    )

pub returns-clause-learned : goal.returns-clause-learned
returns-clause-learned g c =
    let joined = joined_is c.args.number c.args.seat.now.me c.args.shown.me c.join_seat.new.seat.me c.requires.rests c.requires.shown c.join_seat.ensures.2 in
    has_learned c.args.number c.args.table.now.table_id.slots c.load.result (known_of c.args.shown.me.0) c.args.seat.now.me c.join_seat.new.seat.me c.load.new.seat.me joined c.load.ensures.2 c.requires.legal.0 c.requires.legal.1 c.requires.own
