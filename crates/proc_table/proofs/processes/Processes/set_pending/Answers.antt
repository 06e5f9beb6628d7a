use Rattle.proc_table.proofs.Rows.{row_found}
use Rattle.proc_table.proofs.CommonNames.{refl, ℕ, nat_tests, arith, ap, is_some, ProcData, Updates-with_value}
use Rattle.proc_table.proofs.Tied.{head-row, taken, StaysInLists, edited-written, edited-listed}
use Rattle.proc_table.proofs.processes.Processes.set_pending.Goals as goal

abbrev with_pending : ℕ → ProcData → ProcData
with_pending pending p = record p { pending = pending }

stays : (pending : ℕ) (p : ProcData) → StaysInLists p (with_pending pending p)
stays pending p = record { number = refl; user = refl; tracer = refl; parent = refl }

pub known_slot-at-requires-clause-there : goal.known_slot-at-requires-clause-there
known_slot-at-requires-clause-there c = grind (arith, nat_tests, head-row c.self.invariant c.args.pid)

pub index_mut-slot-requires : goal.index_mut-slot-requires
index_mut-slot-requires c =
    let row = row_found c.args.pid _ (rw (← c.self.view_is) at c.requires.there) in
    taken c.self.invariant _ c.args.pid c.known_slot-at.result (λ s. refl) (ap is_some row.1) (rw c.get.ensures.number at c.known_slot-at.ensures)

pub invariant_of-self : goal.invariant_of-self
invariant_of-self c =
    let updates = Updates-with_value c.self.inside.nodes c.known_slot-at.result _ (ap is_some c.index_mut-slot.ensures.value) in
    (edited-written c.self.invariant (with_pending c.args.pending) (stays c.args.pending) c.index_mut-slot.ensures.value updates.changed updates.others).0

pub returns-clause-rows : goal.returns-clause-rows
returns-clause-rows c = λ row there.
    let updates = Updates-with_value c.self.inside.nodes c.known_slot-at.result _ (ap is_some c.index_mut-slot.ensures.value) in
    let number = rw c.get.ensures.number at c.known_slot-at.ensures in
    rw (← c.self.view_is) (edited-listed c.self.invariant (with_pending c.args.pending) (stays c.args.pending) c.index_mut-slot.ensures.value updates.changed updates.others c.args.pid row number (rw (← c.self.view_is) at there))
