use Rattle.proc_table.proofs.CommonNames.{nat_tests, arith}
use Rattle.proc_table.proofs.Tied.{below, unnamed-slot, walk-none, walk-some}
use Rattle.proc_table.proofs.processes.Processes.next_named.Goals as goal

pub returns-in_err-head : goal.returns-in_err-head
returns-in_err-head c = grind (arith, nat_tests, unnamed-slot c.self.invariant c.args.kin c.args.pid c.args.after)

pub next_slot-requires-clause-below : goal.next_slot-requires-clause-below
next_slot-requires-clause-below c = below c.self.invariant

pub returns-in_err-slot : goal.returns-in_err-slot
returns-in_err-slot c = grind (arith, nat_tests, walk-none c.self.invariant c.args.kin c.args.pid c.args.after)

pub returns : goal.returns
returns c = grind (arith, nat_tests, walk-some c.self.invariant c.args.kin c.args.pid c.args.after c.in_ok-slot.slot c.index.result.now)
