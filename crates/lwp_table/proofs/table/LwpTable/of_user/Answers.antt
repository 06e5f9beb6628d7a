use Rattle.lwp_table.proofs.CommonNames.{nat_tests, arith, user_node}
use Rattle.slab.specs.Slab.{get as slot_get}
use Rattle.lwp_table.proofs.CountLemmas.{filter-owner}
use Rattle.lwp_table.proofs.WalkLemmas.{IsWalk-first, user-first}
use Rattle.lwp_table.proofs.table.LwpTable.of_user.Goals as goal

pub invariant_of-result : goal.invariant_of-result
invariant_of-result c = grind (arith, nat_tests, IsWalk-first (slot_get c.self.inside.rows) c.self.inside.slots.entries c.self.inside.births user_node c.slot-place.result _ _ c.self.invariant.kept.indexed (c.self.invariant.kept.user c.slot-place.result (omega arith)))

pub returns-clause-rows : goal.returns-clause-rows
returns-clause-rows c = grind (arith, nat_tests, filter-owner c.args.uid c.slot-place.result, user-first (slot_get c.self.inside.rows) c.self.inside.slots.entries c.self.inside.births c.self.invariant.kept.indexed c.slot-place.result, c.self.invariant.kept.user c.slot-place.result)
