use Rattle.proc_table.proofs.CommonNames.{nat_tests, arith, None, get}
use Rattle.proc_table.proofs.LinkedLists.{are_linked-moved}
use Rattle.proc_table.proofs.links.leave.Goals as goal

pub known_slot-head-requires-clause-there : goal.known_slot-head-requires-clause-there
known_slot-head-requires-clause-there c = grind (arith, nat_tests, c.requires.are_linked.headed c.args.kin c.args.slot c.index.result.now c.in-Some.list_owner)

pub unlink-requires-clause-there : goal.unlink-requires-clause-there
unlink-requires-clause-there c = grind (arith, nat_tests, c.requires.are_linked.headed c.args.kin c.args.slot c.index.result.now c.in-Some.list_owner)

pub returns-in-Some-clause-are_linked : goal.returns-in-Some-clause-are_linked
returns-in-Some-clause-are_linked c =
    are_linked-moved c.args.kin (get c.args.nodes.now) (get c.unlink.new.nodes) c.args.slots.now.entries c.requires.are_linked c.args.slot None c.unlink.ensures.linked c.unlink.ensures.leaves c.unlink.ensures.others
    c.unlink.ensures.rows c.unlink.ensures.apart (λ t is. absurd (cc (is)))
