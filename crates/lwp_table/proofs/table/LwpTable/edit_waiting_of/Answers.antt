use Rattle.lwp_table.proofs.CommonNames.{◌≡◌, ◌∙◌, Some, None, ends_at}
use Rattle.slab.specs.Slab.{get as slot_get}
use Rattle.lwp_table.proofs.EditLemmas.{rows-unawaited, rows-waiting}
use Rattle.lwp_table.proofs.table.LwpTable.edit_waiting_of.Goals as goal

pub returns-in-Some-clause-rows : goal.returns-in-Some-clause-rows
returns-in-Some-clause-rows g c = λ change computes spares.
    let one : (ends_at c.self.inside.heads.entries c.args.child).waiter ≡ Some c.in-Some.tid = rw (← c.ends_of.ensures) c.in-Some.is in
    c.edit_one.ensures.rows change computes
    ∙ rw (← c.self.view_is) (rows-waiting (slot_get c.self.inside.rows) c.self.inside.slots.entries c.self.inside.heads.entries c.self.inside.births c.args.pid c.args.child (c.self.invariant.named c.if-self.false) change spares c.in-Some.tid one)

pub returns-clause-rows : goal.returns-clause-rows
returns-clause-rows g c = λ change computes spares.
    let none : (ends_at c.self.inside.heads.entries c.args.child).waiter ≡ None = rw (← c.ends_of.ensures) c.in_default.is in
    rw (← c.self.view_is) (rows-unawaited (slot_get c.self.inside.rows) c.self.inside.slots.entries c.self.inside.heads.entries c.self.inside.births c.args.pid c.args.child (c.self.invariant.named c.if-self.false) change spares none)
