use Rattle.proc_table.proofs.CommonNames.{◌≡◌, ap, arith, nat_tests, get, anywhere, Node, nodes_of}
use Rattle.proc_table.proofs.Linked.{IsNext-nearest}
use Rattle.proc_table.proofs.ListNodes.{slot_at, list-ends}
use Rattle.proc_table.proofs.links.next_slot.Goals as goal

pub returns-then-after-eq0 : goal.returns-then-after-eq0
returns-then-after-eq0 c =
    let linked = c.requires.are_linked.linked c.args.kin in
    let list = list-ends c.args.kin (get c.args.nodes.now) linked c.args.head c.args.list_owner c.index.result.now c.links_of.result c.index.ensures (rw c.index.ensures at c.requires.there) c.links_of.ensures in
    let next = IsNext-nearest (nodes_of c.args.kin (get c.args.nodes.now)) c.args.list_owner 0 anywhere (λ s node there any. linked.above_zero s node there) (λ k more. tt) c.links_of.result.first list.first_is in
    let zero : c.args.after ≡ 0 = grind (arith, nat_tests, c.if-after-eq0.true) in rw zero next

pub returns : goal.returns
returns c =
    let kin = c.args.kin in
    let f = get c.args.nodes.now in
    IsNext-nearest (nodes_of kin f) c.args.list_owner c.args.after _
    (λ s node there least. let slot = slot_at kin f s node there in omega (arith, least, c.requires.below s slot.0 slot.1, ap (λ (n : Node). n.pid) slot.2))
    (λ k more. omega (arith, more)) c.place_of.result.next c.place_of.ensures.next
