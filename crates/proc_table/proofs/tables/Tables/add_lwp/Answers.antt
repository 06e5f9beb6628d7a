use Rattle.proc_table.proofs.CommonNames.{nat_tests, arith}
use Rattle.proc_table.proofs.KeepsLwps.{keeps-add_lwp}
use Rattle.proc_table.proofs.tables.Tables.add_lwp.Goals as goal

pub invariant_of-self : goal.invariant_of-self
invariant_of-self c = grind (arith, nat_tests, keeps-add_lwp c.args.uid c.args.row _ c.slot-slot.ensures.user c.self.invariant.kept)
