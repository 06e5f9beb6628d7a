use Rattle.trace_stop.proofs.CommonNames.{arith, nat_tests}
use Rattle.proc_table.proofs.Seen.{pid-outside}
use Rattle.trace_stop.proofs.leaf.parent_of.Goals as goal

pub returns-in_default : goal.returns-in_default
returns-in_default c = grind (arith, nat_tests, pid-outside 1 c.args.tables.now.rows c.process.ensures.kept (λ within. omega (arith, within.0)))
