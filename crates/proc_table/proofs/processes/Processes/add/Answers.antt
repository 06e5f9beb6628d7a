use Rattle.proc_table.proofs.CommonNames.{nat_tests, arith, get, rows_of}
use Rattle.proc_table.proofs.Slots.{tally-below}
use Rattle.proc_table.proofs.Tied.{IsBorn, IsRehung, picked, head-row, added-are_linked, added-head, added}
use Rattle.proc_table.proofs.processes.Processes.add.Goals.{After-insert, After-slot}
use Rattle.proc_table.proofs.processes.Processes.add.Goals as goal

-- what the steps up to the index establish
born : (c : After-insert) → IsBorn (get c.self.inside.nodes) c.self.inside.slots.entries c.args.row.now c.insert_reserved-slot.result (get c.insert_reserved-slot.new.self) c.insert.new.self.entries
born c = grind (arith, nat_tests)

pub update_lists-requires-clause-are_linked : goal.update_lists-requires-clause-are_linked
update_lists-requires-clause-are_linked c = added-are_linked c.self.invariant (born (goal.at.update_lists-requires-clause-are_linked c).After-insert)

pub update_lists-requires-clause-list_owners : goal.update_lists-requires-clause-list_owners
update_lists-requires-clause-list_owners c = λ k t is.
    let named = c.requires.named k t (rw (picked c.args.row.now _ _ c.tracer_of-tracer.ensures c.parent_of-parent.ensures k) at is) in
    added-head c.self.invariant (born (goal.at.update_lists-requires-clause-list_owners c).After-insert) t (head-row c.self.invariant t (rw (← c.self.view_is) at named))

pub overflow_add-self : goal.overflow_add-self
overflow_add-self c = rw c.slot.ensures.place (omega (arith, tally-below (rows_of (get c.self.inside.nodes)) c.self.inside.slots.entries c.self.inside.counts c.self.invariant.slotted c.args.row.now.uid c.requires.home.user))

rehung : (c : After-slot) → IsRehung (get c.insert_reserved-slot.new.self) (get c.update_lists.new.nodes) c.insert.new.self.entries c.insert_reserved-slot.result c.tracer_of-tracer.result c.parent_of-parent.result
rehung c = record { are_linked = c.update_lists.ensures.are_linked; rows = c.update_lists.ensures.rows; here = c.update_lists.ensures.here; others = c.update_lists.ensures.others }

pub invariant_of-self : goal.invariant_of-self
invariant_of-self c =
    rw c.slot.ensures.place (added c.self.invariant (born (goal.at.invariant_of-self c).After-insert) (rehung (goal.at.invariant_of-self c).After-slot) c.tracer_of-tracer.ensures c.parent_of-parent.ensures c.self.told).0

pub returns-clause-rows : goal.returns-clause-rows
returns-clause-rows c =
    rw (← c.self.view_is) (added c.self.invariant (born (goal.at.returns-clause-rows c).After-insert) (rehung (goal.at.returns-clause-rows c).After-slot) c.tracer_of-tracer.ensures c.parent_of-parent.ensures c.self.told).1
