use Rattle.proc_table.proofs.CommonNames.{nat_tests, refl, ap, ◌∙◌, subst, arith, get, next_named, rows_of}
use Rattle.proc_table.proofs.Every.{some_of}
use Rattle.proc_table.proofs.Slots.{slot_there}
use Rattle.proc_table.proofs.Tied.{IsWithout, own-row, taken, removed}
use Rattle.proc_table.proofs.processes.Processes.remove.Goals.{After-swap_remove}
use Rattle.proc_table.proofs.processes.Processes.remove.Goals as goal

pub known_slot-slot-requires-clause-there : goal.known_slot-slot-requires-clause-there
known_slot-slot-requires-clause-there c = grind (arith, nat_tests, slot_there (rows_of (get c.self.inside.nodes)) c.self.inside.slots.entries c.self.inside.counts c.self.invariant.slotted c.args.pid)

pub update_lists-requires-clause-there : goal.update_lists-requires-clause-there
update_lists-requires-clause-there c = taken c.self.invariant _ c.args.pid c.known_slot-slot.result (λ s. refl) (rw (← c.self.view_is) at c.requires.there) (rw c.get-number.ensures.number at c.known_slot-slot.ensures)

pub remove-gone-requires : goal.remove-gone-requires
remove-gone-requires c = taken c.self.invariant _ c.args.pid c.known_slot-slot.result c.update_lists.ensures.rows (rw (← c.self.view_is) at c.requires.there) (rw c.get-number.ensures.number at c.known_slot-slot.ensures)

-- what is then kept, and for which rows
after : (c : After-swap_remove) → IsWithout (get c.self.inside.nodes) c.self.inside.slots.entries c.self.inside.counts c.args.pid c.remove-gone.result.row.uid (get c.remove-gone.new.self) c.swap_remove.new.self.entries
after c =
    let there = some_of _ (rw (← c.self.view_is) at c.requires.there) in
    let own = own-row c.self.invariant _ c.args.pid there.0 c.update_lists.ensures.rows c.remove-gone.ensures.value (rw c.get-number.ensures.number at c.known_slot-slot.ensures) there.1 in
    let number = ap (λ p. p.pid) own.0 ∙ own.1 in
    let updates = rw c.get-number.ensures.number at c.swap_remove.ensures.updates in
    subst (λ n. IsWithout (get c.self.inside.nodes) c.self.inside.slots.entries c.self.inside.counts n c.remove-gone.result.row.uid (get c.remove-gone.new.self) c.swap_remove.new.self.entries) number
    (removed c.self.invariant record { are_linked = c.update_lists.ensures.are_linked; rows = c.update_lists.ensures.rows; here = c.update_lists.ensures.here; others = c.update_lists.ensures.others }
    c.remove-gone.ensures.value c.remove-gone.ensures.updates.changed c.remove-gone.ensures.updates.others
    (λ k. rw number (ap (λ v. next_named k c.args.pid 0 v.rows) c.self.view_is ∙ c.requires.unnamed k)) c.self.told
    c.swap_remove.new.self.entries (λ p off. updates.2 p (rw number at off)))

pub overflow_sub-self : goal.overflow_sub-self
overflow_sub-self c = rw c.slot.ensures.place (omega (arith, (after (goal.at.overflow_sub-self c).After-swap_remove).some))

pub invariant_of-self : goal.invariant_of-self
invariant_of-self c = rw c.slot.ensures.place (after (goal.at.invariant_of-self c).After-swap_remove).tied

pub returns-clause-rows : goal.returns-clause-rows
returns-clause-rows c = rw (← c.self.view_is) (after (goal.at.returns-clause-rows c).After-swap_remove).rows
