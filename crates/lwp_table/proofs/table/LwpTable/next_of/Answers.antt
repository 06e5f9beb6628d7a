use Rattle.lwp_table.proofs.CommonNames.{nat_tests, arith, ap, is_some}
use Rattle.slab.specs.Slab.{get as slot_get}
use Rattle.lwp_table.proofs.IndexLemmas.{some_and, came, leads, slot_has}
use Rattle.lwp_table.proofs.WalkLemmas.{next-near}
use Rattle.lwp_table.proofs.table.LwpTable.next_of.Goals as goal

pub slot_of-at-requires-clause-there : goal.slot_of-at-requires-clause-there
slot_of-at-requires-clause-there c = leads (slot_get c.self.inside.rows) c.self.inside.slots.entries c.self.inside.births c.self.invariant.kept.indexed c.args.after (ap is_some (some_and _ _ (rw (← c.self.view_is) at c.requires)).1)

pub index-requires : goal.index-requires
index-requires c = slot_has (slot_get c.self.inside.rows) c.self.inside.slots.entries c.self.inside.births c.self.invariant.kept.indexed c.args.after c.slot_of-at.result (ap is_some (some_and _ _ (rw (← c.self.view_is) at c.requires)).1) c.slot_of-at.ensures

pub returns-in_err-slot-clause-row : goal.returns-in_err-slot-clause-row
returns-in_err-slot-clause-row c = grind (arith, nat_tests, next-near (slot_get c.self.inside.rows) _ _ c.self.invariant.kept.indexed c.args.pid _ _ (c.self.invariant.kept.own c.args.pid) c.args.after c.slot_of-at.result c.index.result.now)

pub index-requires-2 : goal.index-requires-2
index-requires-2 c = grind (arith, nat_tests, came, next-near (slot_get c.self.inside.rows) _ _ c.self.invariant.kept.indexed c.args.pid _ _ (c.self.invariant.kept.own c.args.pid) c.args.after c.slot_of-at.result c.index.result.now)

pub returns-clause-row : goal.returns-clause-row
returns-clause-row c = grind (arith, nat_tests, next-near (slot_get c.self.inside.rows) _ _ c.self.invariant.kept.indexed c.args.pid _ _ (c.self.invariant.kept.own c.args.pid) c.args.after c.slot_of-at.result c.index.result.now)
