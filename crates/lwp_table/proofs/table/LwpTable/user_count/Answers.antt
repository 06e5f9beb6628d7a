use Rattle.lwp_table.proofs.CommonNames.{nat_tests, arith}
use Rattle.lwp_table.proofs.CountLemmas.{count-owner}
use Rattle.lwp_table.proofs.table.LwpTable.user_count.Goals as goal

pub returns-clause-count : goal.returns-clause-count
returns-clause-count c = grind (arith, nat_tests, count-owner c.args.uid c.slot.result, c.self.invariant.kept.homes c.slot.result)
