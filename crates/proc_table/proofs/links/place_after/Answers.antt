use Rattle.proc_table.proofs.CommonNames.{◌≡◌, ℕ, ◌+◌, Some, Option, true, ap, refl, arith, nat_eq, option_map, option_eq, nat_tests, get, RowNode, node_of, nodes_of, members}
use Rattle.proc_table.proofs.Every.{some_and}
use Rattle.proc_table.proofs.Linked.{as_member, member-of}
use Rattle.proc_table.proofs.ListNodes.{slot_named-head, list-at}
use Rattle.proc_table.proofs.Places.{IsPlace, place-next}
use Rattle.proc_table.proofs.links.place_after.Goals.{Then-eq}
use Rattle.proc_table.proofs.links.place_after.Goals as goal

equal : (o : Option ℕ) (n : ℕ) → option_eq nat_eq o (Some n) ≡ true → o ≡ Some n
equal o n h = grind (arith, nat_tests)

-- the place after the row, which is in the list
after_it : (c : Then-eq) → IsPlace (members (nodes_of c.args.kin (get c.args.nodes.now))) c.args.list_owner (c.args.number + 1) (Some c.in_ok-at.at) c.links_of-links.result.next
after_it c =
    let kin = c.args.kin in
    let f = get c.args.nodes.now in
    let there = some_and (λ (slot : RowNode). slot.row.pid ≡ c.args.number) _ (slot_named-head f c.args.slots.now.entries c.args.number c.in_ok-at.at (grind (arith, nat_tests))) in
    let node = node_of kin c.index.result.now in
    let number : node.pid ≡ c.args.number = grind (arith, nat_tests) in
    let names : node.list_owner ≡ Some c.args.list_owner = grind (arith, nat_tests, equal c.links_of-links.result.list_owner c.args.list_owner) in
    let head = c.requires.are_linked.headed kin c.in_ok-at.at c.index.result.now c.args.list_owner c.index.ensures names in
    let its = member-of (nodes_of kin f) c.in_ok-at.at node c.args.list_owner (ap (option_map (node_of kin)) c.index.ensures) names in
    let list = list-at kin f (c.requires.are_linked.linked kin) head.0 c.args.list_owner head.2 in
    rw (← number, ap (λ l. l.next) c.links_of-links.ensures) (place-next (members (nodes_of kin f)) c.args.list_owner c.in_ok-at.at (as_member node c.args.list_owner) its refl (list.3.next_is c.in_ok-at.at (as_member node c.args.list_owner) its refl))

pub returns-then-eq-clause-prev : goal.returns-then-eq-clause-prev
returns-then-eq-clause-prev c = (after_it c).prev_is

pub returns-then-eq-clause-next : goal.returns-then-eq-clause-next
returns-then-eq-clause-next c = (after_it c).next_is
