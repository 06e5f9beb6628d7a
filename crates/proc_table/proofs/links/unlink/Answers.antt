use Rattle.proc_table.proofs.CommonNames.{nat_tests, arith, ℕ, None, refl, ap, ◌∙◌, get, option_map, up, down, above, below, ListLinks, node_of, nodes_of}
use Rattle.proc_table.proofs.Linked.{as_member, member-of, IsLinked-left}
use Rattle.proc_table.proofs.ListNodes.{list-at, link-there, still-there}
use Rattle.proc_table.proofs.links.unlink.Goals as goal

pub set_next-requires-clause-at : goal.set_next-requires-clause-at
set_next-requires-clause-at c =
    let list = list-at c.args.kin (get c.args.nodes.now) c.requires.linked c.args.head c.args.list_owner c.requires.there in
    let node = node_of c.args.kin c.index.result.now in
    let near = list.3.prev_is c.args.slot (as_member node c.args.list_owner) (grind (arith, nat_tests)) refl in
    rw (ap (λ (l : ListLinks). l.prev) c.links_of-links.ensures) (link-there down c.args.kin (get c.args.nodes.now) c.args.list_owner (below node.pid) node.prev near)

pub set_prev-requires-clause-at : goal.set_prev-requires-clause-at
set_prev-requires-clause-at c =
    let f = get c.args.nodes.now in
    let list = list-at c.args.kin f c.requires.linked c.args.head c.args.list_owner c.requires.there in
    let node = node_of c.args.kin c.index.result.now in
    rw (ap (λ (l : ListLinks). l.next) c.links_of-links.ensures) (still-there f (get c.set_next.new.nodes) c.set_next.ensures.rows node.next (link-there up c.args.kin f c.args.list_owner (above node.pid) node.next
    (list.3.next_is c.args.slot (as_member node c.args.list_owner) (member-of (nodes_of c.args.kin f) c.args.slot node c.args.list_owner (ap (option_map (node_of c.args.kin)) c.index.ensures) (rw c.index.ensures at c.requires.its)) refl)))

pub returns-clause-linked : goal.returns-clause-linked
returns-clause-linked c =
    let f = get c.args.nodes.now in
    let list = list-at c.args.kin f c.requires.linked c.args.head c.args.list_owner c.requires.there in
    let turned : (s : ℕ) → _ = λ s. c.hang.ensures.nodes s ∙ ap (option_map _) (c.set_prev.ensures.nodes s ∙ ap (option_map _) (c.set_next.ensures.nodes s)) in
    IsLinked-left (nodes_of c.args.kin f) (nodes_of c.args.kin (get c.hang.new.nodes)) c.requires.linked c.args.head c.args.list_owner c.args.slot (node_of c.args.kin list.0) (node_of c.args.kin c.index.result.now)
    (ap (option_map (node_of c.args.kin)) list.1) list.2 (ap (option_map (node_of c.args.kin)) c.index.ensures) _ _ _ _ None None None turned (rw c.index.ensures at c.requires.its) refl
    (ap (λ (l : ListLinks). l.prev) c.links_of-links.ensures) (ap (λ (l : ListLinks). l.next) c.links_of-links.ensures) (ap (λ (l : ListLinks). l.next) c.links_of-links.ensures) (ap (λ (l : ListLinks). l.prev) c.links_of-links.ensures)
