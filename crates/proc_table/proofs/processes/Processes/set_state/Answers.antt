use Rattle.proc_table.proofs.Rows.{row_found}
use Rattle.proc_table.proofs.CommonNames.{refl, nat_tests, arith, ap, is_some, ProcData, get, ◌∙◌, Updates-with_value}
use Rattle.proc_table.proofs.Tied.{head-row, own-row, taken, StaysInLists, edited-written, edited-listed}
use Rattle.proc_table.specs.declared.State.{State}
use Rattle.proc_table.specs.Processes.{has_news}
use Rattle.proc_table.proofs.processes.Processes.set_state.Goals as goal

abbrev with_state : State → ProcData → ProcData
with_state state p = record p { state = state }

stays : (state : State) (p : ProcData) → StaysInLists p (with_state state p)
stays state p = record { number = refl; user = refl; tracer = refl; parent = refl }

pub known_slot-at-requires-clause-there : goal.known_slot-at-requires-clause-there
known_slot-at-requires-clause-there c = grind (arith, nat_tests, head-row c.self.invariant c.args.pid)

pub index_mut-slot-requires : goal.index_mut-slot-requires
index_mut-slot-requires c =
    let row = row_found c.args.pid _ (rw (← c.self.view_is) at c.requires.there) in
    taken c.self.invariant _ c.args.pid c.known_slot-at.result (λ s. refl) (ap is_some row.1) (rw c.get.ensures.number at c.known_slot-at.ensures)

pub invariant_of-self : goal.invariant_of-self
invariant_of-self c =
    let updates = Updates-with_value c.self.inside.nodes c.known_slot-at.result _ (ap is_some c.index_mut-slot.ensures.value) in
    (edited-written c.self.invariant (with_state c.args.state) (stays c.args.state) c.index_mut-slot.ensures.value updates.changed updates.others).0

pub returns-clause-rows : goal.returns-clause-rows
returns-clause-rows c = λ row there.
    let updates = Updates-with_value c.self.inside.nodes c.known_slot-at.result _ (ap is_some c.index_mut-slot.ensures.value) in
    let number = rw c.get.ensures.number at c.known_slot-at.ensures in
    rw (← c.self.view_is) (edited-listed c.self.invariant (with_state c.args.state) (stays c.args.state) c.index_mut-slot.ensures.value updates.changed updates.others c.args.pid row number (rw (← c.self.view_is) at there))

pub returns-clause-news : goal.returns-clause-news
returns-clause-news c = λ row there.
    let number = rw c.get.ensures.number at c.known_slot-at.ensures in
    let its = own-row c.self.invariant (get c.self.inside.nodes) c.args.pid row (λ s. refl) c.index_mut-slot.ensures.value number (rw (← c.self.view_is) at there) in
    c.has_news.ensures ∙ ap (λ p. has_news (with_state c.args.state p)) its.0
