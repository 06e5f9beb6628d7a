use Rattle.lwp_table.proofs.CommonNames.{nat_tests, arith}
use Rattle.slab.specs.Slab.{get as slot_get}
use Rattle.lwp_table.proofs.WalkLemmas.{first-row}
use Rattle.lwp_table.proofs.table.LwpTable.first_of.Goals as goal

pub returns-in_err-slot-clause-row : goal.returns-in_err-slot-clause-row
returns-in_err-slot-clause-row c = grind (arith, nat_tests, first-row (slot_get c.self.inside.rows) _ _ c.self.invariant.kept.indexed c.args.pid _ (c.self.invariant.kept.own c.args.pid).first_is)

pub returns-clause-row : goal.returns-clause-row
returns-clause-row c = grind (arith, nat_tests, first-row (slot_get c.self.inside.rows) _ _ c.self.invariant.kept.indexed c.args.pid _ (c.self.invariant.kept.own c.args.pid).first_is)
