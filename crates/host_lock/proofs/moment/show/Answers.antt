use Rattle.host_lock.proofs.CommonNames.{◌≤◌, ◌≡◌, ◌*◌, ap, arith, length, Me, View, HostSlot, others, max_calls}
use Rattle.host_lock.proofs.Moments.{keeps_own, shows}
use Rattle.host_lock.proofs.Turns.{splits}
use Rattle.host_lock.proofs.moment.show.Goals as goal

pub split_seat-requires : goal.split_seat-requires
split_seat-requires g c =
    let table = c.args.table.now in
    let seat = c.args.seat.now in
    let one : length seat.me.0.owns ≡ 1 = ap (λ (m : Me (HostSlot g.row.F.Denot g.row.J.Denot) View). length m.0.owns) c.requires.rests in
    let few : others seat.me.0 * max_calls ≤ seat.me.0.budget = omega arith in (
      c.requires.table.1,
      omega (arith, c.requires.table.0.0),
      splits table.key.start.value table.key.sessions seat.id seat.me.0 (ap (λ (m : Me (HostSlot g.row.F.Denot g.row.J.Denot) View). m.0.stage) c.requires.rests) few,
    )

pub returns-clause-same : goal.returns-clause-same
returns-clause-same g c = keeps_own c.args.number c.args.seat.now.me c.split_seat.new.seat.me c.requires.rests c.split_seat.ensures.2

pub returns-clause-shown : goal.returns-clause-shown
returns-clause-shown g c = shows c.args.number c.args.seat.now.me c.split_seat.result.me c.requires.rests c.split_seat.ensures.4
