use Rattle.proc_table.proofs.CommonNames.{◌-◌, FnReturnsAt, get}
use Rattle.proc_table.proofs.Firsts.{IsPassing}
use Rattle.proc_table.proofs.links.first_slot.Given as goal

abbrev pub invariant-loop-link : goal.invariant-loop-link
invariant-loop-link g l = IsPassing (get l.nodes) l.kin l.list_owner (FnReturnsAt g.F.Fn l.test) l.passed l.link

abbrev pub decreases-loop-link : goal.decreases-loop-link
decreases-loop-link g l = 65000 - l.passed
