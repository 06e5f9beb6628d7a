use Rattle.proc_table.proofs.CommonNames.{◌-◌, get, members, nodes_of}
use Rattle.proc_table.proofs.Places.{HasPassed}
use Rattle.proc_table.proofs.links.place_of.Given as goal

abbrev pub invariant-loop-next : goal.invariant-loop-next
invariant-loop-next l = HasPassed (members (nodes_of l.kin (get l.nodes))) l.list_owner l.pid l.passed l.prev l.next

abbrev pub decreases-loop-next : goal.decreases-loop-next
decreases-loop-next l = l.pid - l.passed
