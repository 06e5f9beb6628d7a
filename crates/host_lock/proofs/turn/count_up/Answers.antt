use Rattle.host_lock.proofs.CommonNames.{ℕ, arith, start_of, known_of, mine_of}
use Rattle.host_lock.proofs.Turns.{counts_up}
use Rattle.host_lock.proofs.turn.count_up.Goals as goal

pub fetch_add-requires : goal.fetch_add-requires
fetch_add-requires g c =
    let table = c.args.table.now in
    let seat = c.args.seat.now in
    let v = seat.me.0 in
    let slots : ℕ = table.table_id.slots in (
      c.requires.table.1,
      omega (arith, c.requires.table.0.0),
      rw c.requires.holds (counts_up table.key.start.value table.key.sessions slots seat.id v.budget c.args.ticket c.args.number c.args.user (start_of v) (known_of v) (mine_of v) c.args.step.now),
    )
