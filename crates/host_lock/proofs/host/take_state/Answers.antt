use Rattle.host_lock.proofs.CommonNames.{List, ap, ◌∙◌, some, HostSlot}
use Rattle.std.specs.Slots.{slots_items}
use Rattle.host_lock.proofs.Turns.{ends}
use Rattle.host_lock.proofs.Closings.{closes_with, not_taken}
use Rattle.host_lock.proofs.host.take_state.Goals as goal

pub unreachable-requires : goal.unreachable-requires
unreachable-requires g c =
    let key = c.args.table.shared.key in
    let xs : List (HostSlot g.row.F.Denot g.row.J.Denot) = slots_items c.close_with-closed.result.slots in
    let end = ends key.start.value key.sessions _ xs c.args.seat.id c.args.seat.me.0 c.requires.all.1 c.requires.all.0 c.close_with-closed.ensures.values.2 in
    not_taken key.start.value key.sessions c.args.seat.me.0 xs c.in-Taken.field-0 c.in-Taken.field-1 end (c.take-slot.ensures.value ∙ ap some c.in-Taken.is)

pub returns : goal.returns
returns g c =
    let key = c.args.table.shared.key in
    let xs : List (HostSlot g.row.F.Denot g.row.J.Denot) = slots_items c.close_with-closed.result.slots in
    let end = ends key.start.value key.sessions _ xs c.args.seat.id c.args.seat.me.0 c.requires.all.1 c.requires.all.0 c.close_with-closed.ensures.values.2 in
    let found = closes_with key.start.value key.sessions c.args.seat.me.0 xs c.in-Present.state end (c.take-slot.ensures.value ∙ ap some c.in-Present.is) in
    record { start = found.0; known = found.1; owns = found.2; entries = found.3 }
