use Rattle.proc_table.proofs.CommonNames.{nat_tests, arith}
use Rattle.proc_table.proofs.KeepsLwps.{keeps-map_lwps}
use Rattle.proc_table.proofs.tables.Tables.edit_waiting_lwps.Goals as goal

pub edit_waiting_of-requires-clause-keeps : goal.edit_waiting_of-requires-clause-keeps
edit_waiting_of-requires-clause-keeps g c = λ l k there returned. let its = c.requires.change.1 in grind (arith, nat_tests, its.computes l k, its.number l, its.process l)

pub invariant_of-self : goal.invariant_of-self
invariant_of-self g c = grind (arith, nat_tests, keeps-map_lwps c.args.pid c.requires.change.0 (rw (← c.self.view_is) at c.requires.change.1).number (rw (← c.self.view_is) at c.requires.change.1).process _ c.self.invariant.kept, c.edit_waiting_of.ensures.rows c.requires.change.0 (rw (← c.self.view_is) at c.requires.change.1).computes c.requires.change.2)

pub returns-clause-rows : goal.returns-clause-rows
returns-clause-rows g c = rw (← c.self.view_is) (λ change computes spares. let rows = c.edit_waiting_of.ensures.rows change computes spares in grind (arith, nat_tests))
