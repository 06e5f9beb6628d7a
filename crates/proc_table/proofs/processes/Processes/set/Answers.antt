use Rattle.proc_table.proofs.CommonNames.{◌≡◌, refl, nat_tests, arith, ap, ◌∙◌, is_some, get, Updates-with_value, rows_of}
use Rattle.proc_table.proofs.Every.{some_and}
use Rattle.proc_table.proofs.Slots.{slot_there}
use Rattle.proc_table.proofs.Tied.{IsRehung, own-row, taken, picked, head-row, written}
use Rattle.proc_table.proofs.processes.Processes.set.Goals.{After-index_mut-node}
use Rattle.proc_table.proofs.processes.Processes.set.Goals as goal

pub known_slot-slot-requires-clause-there : goal.known_slot-slot-requires-clause-there
known_slot-slot-requires-clause-there c = grind (arith, nat_tests, some_and, slot_there (rows_of (get c.self.inside.nodes)) c.self.inside.slots.entries c.self.inside.counts c.self.invariant.slotted c.args.row.now.pid)

pub update_lists-requires-clause-list_owners : goal.update_lists-requires-clause-list_owners
update_lists-requires-clause-list_owners c = λ k t is.
    let named = c.requires.named k t (rw (picked c.args.row.now _ _ c.tracer_of.ensures c.parent_of.ensures k) at is) in
    head-row c.self.invariant t (rw (← c.self.view_is) at named)

pub update_lists-requires-clause-there : goal.update_lists-requires-clause-there
update_lists-requires-clause-there c =
    let before = some_and _ _ (rw (← c.self.view_is) at c.requires.there) in
    taken c.self.invariant _ c.args.row.now.pid c.known_slot-slot.result (λ s. refl) (ap is_some before.1) (rw c.get-number.ensures.number at c.known_slot-slot.ensures)

pub index_mut-node-requires : goal.index_mut-node-requires
index_mut-node-requires c =
    let before = some_and _ _ (rw (← c.self.view_is) at c.requires.there) in
    taken c.self.invariant _ c.args.row.now.pid c.known_slot-slot.result c.update_lists.ensures.rows (ap is_some before.1) (rw c.get-number.ensures.number at c.known_slot-slot.ensures)

rehung : (c : After-index_mut-node) → IsRehung (get c.self.inside.nodes) (get c.update_lists.new.nodes) c.self.inside.slots.entries c.known_slot-slot.result c.tracer_of.result c.parent_of.result
rehung c = record { are_linked = c.update_lists.ensures.are_linked; rows = c.update_lists.ensures.rows; here = c.update_lists.ensures.here; others = c.update_lists.ensures.others }

number : (c : After-index_mut-node) → c.index_mut-node.result.now.row.pid ≡ c.args.row.now.pid
number c =
    let before = some_and _ _ (rw (← c.self.view_is) at c.requires.there) in
    let own = own-row c.self.invariant _ c.args.row.now.pid before.0 c.update_lists.ensures.rows c.index_mut-node.ensures.value (rw c.get-number.ensures.number at c.known_slot-slot.ensures) before.1 in
    ap (λ p. p.pid) own.0 ∙ own.1

pub invariant_of-self : goal.invariant_of-self
invariant_of-self c =
    let updates = Updates-with_value c.update_lists.new.nodes c.known_slot-slot.result _ (ap is_some c.index_mut-node.ensures.value) in
    (written c.self.invariant (rehung (goal.at.invariant_of-self c).After-index_mut-node) c.tracer_of.ensures c.parent_of.ensures c.index_mut-node.ensures.value
    updates.changed updates.others (number (goal.at.invariant_of-self c).After-index_mut-node) (rw (← c.self.view_is) at c.requires.there)).0

pub returns-clause-rows : goal.returns-clause-rows
returns-clause-rows c =
    let updates = Updates-with_value c.update_lists.new.nodes c.known_slot-slot.result _ (ap is_some c.index_mut-node.ensures.value) in
    rw (← c.self.view_is) (written c.self.invariant (rehung (goal.at.returns-clause-rows c).After-index_mut-node) c.tracer_of.ensures c.parent_of.ensures c.index_mut-node.ensures.value
    updates.changed updates.others (number (goal.at.returns-clause-rows c).After-index_mut-node) (rw (← c.self.view_is) at c.requires.there)).1
