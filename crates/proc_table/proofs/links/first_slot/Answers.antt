use Rattle.proc_table.proofs.CommonNames.{nat_tests, ap, arith, FnReturnsAt, get, option_map, node_of, nodes_of}
use Rattle.std.proofs.lemmas.Fn.{says_at}
use Rattle.proc_table.proofs.Linked.{list-of}
use Rattle.proc_table.proofs.Firsts.{member_slot, passing-first, passing-none, passing-above, passing-found, passing-on}
use Rattle.proc_table.proofs.links.first_slot.Goals as goal

pub loop-link-init : goal.loop-link-init
loop-link-init g c = rw c.links_of-link.ensures (passing-first (get c.args.nodes.now) c.args.kin c.args.list_owner (FnReturnsAt g.F.Fn c.args.test) c.requires.linked c.args.head c.index.result.now c.index.ensures (rw c.index.ensures at c.requires.there))

pub index-slot-requires : goal.index-slot-requires
index-slot-requires g c = grind (arith, nat_tests, member_slot)

pub returns-then-test : goal.returns-then-test
returns-then-test g c =
    passing-found (get c.args.nodes.now) c.args.kin c.args.list_owner (FnReturnsAt g.F.Fn c.args.test) c.requires.linked c.loop-link.passed c.in-Some.at c.index-slot.result.now c.index-slot.ensures
    (rw c.in-Some.is at c.loop-link.invariant) (says_at g.F.Fn c.test.ensures c.if-test.true)

pub loop-link-smaller : goal.loop-link-smaller
loop-link-smaller g c = grind (arith, nat_tests, passing-above)

pub loop-link-preserved : goal.loop-link-preserved
loop-link-preserved g c =
    rw (c.get-passed.ensures.number, c.links_of-link-in-Some.ensures)
    (passing-on (get c.args.nodes.now) c.args.kin c.args.list_owner (FnReturnsAt g.F.Fn c.args.test) c.requires.linked c.loop-link.passed c.in-Some.at c.index-slot.result.now c.index-slot.ensures
    (rw c.in-Some.is at c.loop-link.invariant)
    (list-of (nodes_of c.args.kin (get c.args.nodes.now)) c.requires.linked c.args.head c.args.list_owner (node_of c.args.kin c.index.result.now) (ap (option_map (node_of c.args.kin)) c.index.ensures) (rw c.index.ensures at c.requires.there))
    (says_at g.F.Fn c.test.ensures c.if-test.false))

pub returns : goal.returns
returns g c = passing-none (get c.args.nodes.now) c.args.kin c.args.list_owner (FnReturnsAt g.F.Fn c.args.test) c.requires.linked c.loop-link.passed (rw c.in_default.is at c.loop-link.invariant)
