use Rattle.lwp_table.proofs.CommonNames.{arith, nat_tests, ap, sym, ◌≡◌, ◌∙◌, is_some}
use Rattle.slab.specs.Slab.{get as slot_get}
use Rattle.lwp_table.proofs.BirthLemmas.{at-first, at-none, at-next, at-end, at-row}
use Rattle.lwp_table.proofs.table.LwpTable.at.Goals as goal

pub returns-in_err-slot-clause-row : goal.returns-in_err-slot-clause-row
returns-in_err-slot-clause-row c = grind (arith, nat_tests, at-none (slot_get c.self.inside.rows) c.self.inside.slots.entries c.self.inside.births c.self.invariant.kept.indexed c.next_born.result c.args.place c.next_born.ensures)

pub loop-init : goal.loop-init
loop-init c = at-first (slot_get c.self.inside.rows) c.self.inside.slots.entries c.self.inside.births c.self.invariant.kept.indexed c.next_born.result c.in_ok-slot.slot c.next_born.ensures c.in_ok-slot.was

pub index-requires : goal.index-requires
index-requires c = ap is_some c.loop.invariant.there

pub returns-in_err-slot-2-clause-row : goal.returns-in_err-slot-2-clause-row
returns-in_err-slot-2-clause-row c =
    let none = at-end (slot_get c.self.inside.rows) c.self.inside.slots.entries c.self.inside.births c.self.invariant.kept.indexed c.loop.counter c.loop.slot c.loop.invariant c.index.result.now c.index.ensures c.next_born-in-loop.result c.args.place c.next_born-in-loop.ensures c.in_err-slot-2.was c.loop-test.true in
    rw (← c.self.view_is) (c.from_residual-in_err-slot-2.ensures ∙ sym none)

pub loop-preserved : goal.loop-preserved
loop-preserved c = at-next (slot_get c.self.inside.rows) c.self.inside.slots.entries c.self.inside.births c.self.invariant.kept.indexed c.loop.counter c.loop.slot c.loop.invariant c.index.result.now c.index.ensures c.next_born-in-loop.result c.in_ok-slot-2.slot c.next_born-in-loop.ensures c.in_ok-slot-2.was

pub returns-clause-row : goal.returns-clause-row
returns-clause-row c =
    let here = at-row (slot_get c.self.inside.rows) c.self.inside.slots.entries c.self.inside.births c.self.invariant.kept.indexed c.loop.counter c.loop.slot c.loop.invariant c.index-2.result.now c.index-2.ensures in
    let all : c.loop.counter ≡ c.args.place = omega (arith, c.loop-test.false, c.loop.auto.counter-end) in
    rw (← c.self.view_is, ← all) (sym here)
