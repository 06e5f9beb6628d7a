use Rattle.proc_table.proofs.CommonNames.{nat_tests, ℕ, Some, refl, ap, ◌∙◌, arith, get, option_map, down, below, node_of, nodes_of}
use Rattle.proc_table.proofs.Linked.{IsLinked-joined, nearest-beyond}
use Rattle.proc_table.proofs.ListNodes.{list-at, link-there, still-there}
use Rattle.proc_table.proofs.links.link.Goals as goal

pub set_next-requires-clause-at : goal.set_next-requires-clause-at
set_next-requires-clause-at c = link-there down c.args.kin (get c.args.nodes.now) c.args.list_owner (below c.get-pid.result) c.place_of-place.result.prev c.place_of-place.ensures.prev

pub set_prev-requires-clause-at : goal.set_prev-requires-clause-at
set_prev-requires-clause-at c = grind (arith, nat_tests, still-there, link-there)

pub returns-clause-linked : goal.returns-clause-linked
returns-clause-linked c =
    let f = get c.args.nodes.now in
    let list = list-at c.args.kin f (c.requires.are_linked.linked c.args.kin) c.args.head c.args.list_owner c.requires.there in
    let node = node_of c.args.kin c.index.result.now in
    let there = ap (option_map (node_of c.args.kin)) c.index.ensures in
    let free = rw c.index.ensures at c.requires.free in
    let turned : (s : ℕ) → _ = λ s. c.hang.ensures.nodes s ∙ ap (option_map _) (c.set_prev.ensures.nodes s ∙ ap (option_map _) (c.set_next.ensures.nodes s)) in
    IsLinked-joined (nodes_of c.args.kin f) (nodes_of c.args.kin (get c.hang.new.nodes)) (c.requires.are_linked.linked c.args.kin) c.args.head c.args.list_owner c.args.slot (node_of c.args.kin list.0) node
    (ap (option_map (node_of c.args.kin)) list.1) list.2 there _ _ _ _ (Some c.args.list_owner) c.place_of-place.result.prev c.place_of-place.result.next turned free refl refl refl refl refl
    (rw c.get-pid.ensures.number at c.place_of-place.ensures.prev)
    (nearest-beyond (nodes_of c.args.kin f) (c.requires.are_linked.linked c.args.kin) c.args.list_owner c.args.slot node there free c.place_of-place.result.next (rw c.get-pid.ensures.number at c.place_of-place.ensures.next))
