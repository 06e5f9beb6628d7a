use Rattle.lwp_table.proofs.CommonNames.{nat_tests, arith, own_node}
use Rattle.slab.specs.Slab.{get as slot_get}
use Rattle.lwp_table.proofs.WalkLemmas.{IsWalk-first}
use Rattle.lwp_table.proofs.table.LwpTable.of_process.Goals as goal

pub invariant_of-result : goal.invariant_of-result
invariant_of-result c = grind (arith, nat_tests, IsWalk-first (slot_get c.self.inside.rows) c.self.inside.slots.entries c.self.inside.births own_node c.args.pid _ _ c.self.invariant.kept.indexed (c.self.invariant.kept.own c.args.pid))
