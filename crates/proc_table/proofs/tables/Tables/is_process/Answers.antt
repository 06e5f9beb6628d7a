use Rattle.proc_table.proofs.CommonNames.{arith, nat_tests}
use Rattle.proc_table.proofs.Seen.{has_row, pid-outside}
use Rattle.proc_table.proofs.tables.Tables.is_process.Goals as goal

pub returns-else-number-ge-FIRST_PID : goal.returns-else-number-ge-FIRST_PID
returns-else-number-ge-FIRST_PID c = grind (arith, nat_tests, has_row c.args.number c.self.inside.processes.rows, pid-outside c.args.number _ c.self.invariant.kept (λ h. omega (arith, h.0, c.if-number-ge-FIRST_PID.false)))
