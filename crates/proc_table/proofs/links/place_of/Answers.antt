use Rattle.proc_table.proofs.CommonNames.{nat_tests, ◌<◌, ◌≡◌, Some, None, ap, ◌∙◌, arith, get, IsNearest, down, anywhere, members, nodes_of}
use Rattle.proc_table.proofs.Linked.{positive-members}
use Rattle.proc_table.proofs.ListNodes.{list-ends, link-there, member-row}
use Rattle.proc_table.proofs.Places.{IsPlace, place-last, passing-first, passing-on, place-found}
use Rattle.proc_table.proofs.links.place_of.Goals.{After-get}
use Rattle.proc_table.proofs.links.place_of.Goals as goal

pub index-requires-in-Some : goal.index-requires-in-Some
index-requires-in-Some c =
    let f = get c.args.nodes.now in
    let list = list-ends c.args.kin f (c.requires.are_linked.linked c.args.kin) c.args.head c.args.list_owner c.index.result.now c.links_of-ends.result c.index.ensures (rw c.index.ensures at c.requires.there) c.links_of-ends.ensures in
    link-there down c.args.kin f c.args.list_owner anywhere (Some c.in-Some.last) (rw c.in-Some.is at list.last_is)

-- the place after the last row
at_end : (c : After-get) → c.get.result < c.args.pid → IsPlace (members (nodes_of c.args.kin (get c.args.nodes.now))) c.args.list_owner c.args.pid (Some c.in-Some.last) None
at_end c less =
    let f = get c.args.nodes.now in
    let list = list-ends c.args.kin f (c.requires.are_linked.linked c.args.kin) c.args.head c.args.list_owner c.index.result.now c.links_of-ends.result c.index.ensures (rw c.index.ensures at c.requires.there) c.links_of-ends.ensures in
    let last : IsNearest down (members (nodes_of c.args.kin f)) c.args.list_owner anywhere (Some c.in-Some.last) = rw c.in-Some.is at list.last_is in
    let its = member-row c.args.kin f c.in-Some.last last.0 c.index-in-Some.result.now last.1 c.index-in-Some.ensures in
    place-last (members (nodes_of c.args.kin f)) c.args.list_owner c.args.pid c.in-Some.last last (omega (arith, less, c.get.ensures.number, ap (λ n. n.key) its))

pub returns-then-get-pid-clause-prev : goal.returns-then-get-pid-clause-prev
returns-then-get-pid-clause-prev c = rw c.in-Some.is (at_end (goal.at.returns-then-get-pid-clause-prev c).After-get c.if-get-pid.true).prev_is

pub returns-then-get-pid-clause-next : goal.returns-then-get-pid-clause-next
returns-then-get-pid-clause-next c = (at_end (goal.at.returns-then-get-pid-clause-next c).After-get c.if-get-pid.true).next_is

pub loop-next-init : goal.loop-next-init
loop-next-init c =
    let f = get c.args.nodes.now in
    let list = list-ends c.args.kin f (c.requires.are_linked.linked c.args.kin) c.args.head c.args.list_owner c.index.result.now c.links_of-ends.result c.index.ensures (rw c.index.ensures at c.requires.there) c.links_of-ends.ensures in
    passing-first (members (nodes_of c.args.kin f)) c.args.list_owner c.args.pid c.links_of-ends.result.first (positive-members (nodes_of c.args.kin f) (c.requires.are_linked.linked c.args.kin)) c.requires.positive list.first_is

pub returns-then-number-pid-clause-prev : goal.returns-then-number-pid-clause-prev
returns-then-number-pid-clause-prev c = grind (arith, nat_tests, member-row, place-found)

pub loop-next-preserved : goal.loop-next-preserved
loop-next-preserved c =
    let f = get c.args.nodes.now in
    let list = list-ends c.args.kin f (c.requires.are_linked.linked c.args.kin) c.args.head c.args.list_owner c.index.result.now c.links_of-ends.result c.index.ensures (rw c.index.ensures at c.requires.there) c.links_of-ends.ensures in
    let walk = rw c.in-Some-next.is at c.loop-next.invariant in
    let near = walk.next_is in
    let its = member-row c.args.kin f c.in-Some-next.slot near.0 c.index-in-Some-next.result.now near.1 c.index-in-Some-next.ensures in
    let again = member-row c.args.kin f c.in-Some-next.slot near.0 c.index-in-Some-next-2.result.now near.1 c.index-in-Some-next-2.ensures in
    let number : c.get-number.result ≡ near.0.key = c.get-number.ensures.number ∙ ap (λ n. n.key) its in
    let next : c.links_of-next.result.next ≡ near.0.next = ap (λ l. l.next) c.links_of-next.ensures ∙ ap (λ n. n.next) again in
    rw (number, next) (passing-on (members (nodes_of c.args.kin f)) c.args.list_owner c.args.pid c.loop-next.passed c.loop-next.prev c.in-Some-next.slot near.0.next walk
    (omega (arith, number, c.if-number-pid.false)) (list.next_is c.in-Some-next.slot near.0 near.1 near.2))
