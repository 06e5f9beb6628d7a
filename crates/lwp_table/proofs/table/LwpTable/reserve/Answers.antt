use Rattle.lwp_table.proofs.table.LwpTable.reserve.Goals as goal

pub invariant_of-self : goal.invariant_of-self
invariant_of-self c = rw c.reserve.ensures.rest_kept c.self.invariant

pub invariant_of-self-in_err-reserve-2 : goal.invariant_of-self-in_err-reserve-2
invariant_of-self-in_err-reserve-2 c = rw (c.reserve.ensures.rest_kept, c.reserve-2.ensures.entries) c.self.invariant

pub invariant_of-self-in_err-reserve-3 : goal.invariant_of-self-in_err-reserve-3
invariant_of-self-in_err-reserve-3 c = rw (c.reserve.ensures.rest_kept, c.reserve-2.ensures.entries, c.reserve-3.ensures.entries) c.self.invariant

pub invariant_of-self-in_err-reserve-4 : goal.invariant_of-self-in_err-reserve-4
invariant_of-self-in_err-reserve-4 c = rw (c.reserve.ensures.rest_kept, c.reserve-2.ensures.entries, c.reserve-3.ensures.entries, c.reserve-4.ensures.items) c.self.invariant

pub invariant_of-self-2 : goal.invariant_of-self-2
invariant_of-self-2 c = rw (c.reserve.ensures.rest_kept, c.reserve-2.ensures.entries, c.reserve-3.ensures.entries, c.reserve-4.ensures.items) c.self.invariant
