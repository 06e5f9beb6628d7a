use Rattle.proc_table.proofs.CommonNames.{nat_tests, arith, get, rows_of}
use Rattle.proc_table.proofs.Listing.{find-all_rows}
use Rattle.proc_table.proofs.Slots.{finds}
use Rattle.proc_table.proofs.processes.Processes.find.Goals as goal

pub returns-in_err-node_named : goal.returns-in_err-node_named
returns-in_err-node_named c = grind (arith, nat_tests, find-all_rows _ (finds (rows_of (get c.self.inside.nodes)) c.self.inside.slots.entries c.self.inside.counts c.self.invariant.slotted) c.args.number)

pub returns : goal.returns
returns c = grind (arith, nat_tests, find-all_rows _ (finds (rows_of (get c.self.inside.nodes)) c.self.inside.slots.entries c.self.inside.counts c.self.invariant.slotted) c.args.number)
