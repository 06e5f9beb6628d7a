-- What a write of links does to what the lists and the table's rows see of a slot.
use Rattle.proc_table.proofs.CommonNames.{nat_tests, ◌≡◌, ◌≢◌, ℕ, Option, Some, None, IsSome, IfSome, ap, rules, arith, option_map, cases_eq, same_Some}
use Rattle.proc_table.proofs.CommonNames.{ProcData, ListKind, ListLinks, RowNode, IsNearest, IsChain, Node, members, IsLinked, forward, backward, hung, links_in, put_links, other, node_of, nodes_of, rows_of}
use Rattle.proc_table.proofs.CommonNames.{List, lookup, nat_eq, slot_named, IsHead}
use Rattle.lwp_table.specs.Chain.{Node as Member}
use Rattle.proc_table.proofs.Every.{some_of, some_and}
use Rattle.proc_table.proofs.Rows.{same_number, other_number}
use Rattle.proc_table.proofs.Linked.{as_member, node-of, list-of}

pub put-node_of : (kin : ListKind) (l : ListLinks) (slot : RowNode) → node_of kin (put_links kin l slot) ≡ record { pid = slot.row.pid; list_owner = l.list_owner; first = l.first; last = l.last; prev = l.prev; next = l.next }
put-node_of kin l slot = grind (arith, nat_tests)

-- the links of one kind written in one slot
module _ (f g : ℕ → Option RowNode) (at : ℕ) (kin : ListKind) (l : ListLinks) (was : RowNode) (has : f at ≡ Some was) (gets : g at ≡ Some (put_links kin l was)) (others : (s : ℕ) → s ≢ at → g s ≡ f s) where
  pub put-rows : (s : ℕ) → rows_of g s ≡ rows_of f s
  put-rows s = grind (arith, nat_tests)

  pub put-others : (s : ℕ) → nodes_of (other kin) g s ≡ nodes_of (other kin) f s
  put-others s = grind (arith, nat_tests)

-- the links that a slot had, with some of them changed
module _ (f g : ℕ → Option RowNode) (at : ℕ) (kin : ListKind) (x : RowNode) (r l : ListLinks) (has : f at ≡ Some x) (read : r ≡ links_in kin x)
    (writes : (slot : RowNode) → f at ≡ Some slot → g at ≡ Some (put_links kin l slot)) (others : (s : ℕ) → s ≢ at → g s ≡ f s) where
  abbrev seen : ListLinks → Node
  seen links = record { pid = x.row.pid; list_owner = links.list_owner; first = links.first; last = links.last; prev = links.prev; next = links.next }

  put-nodes : (change : ℕ → Node → Node) → seen l ≡ change at (node_of kin x) → ((s : ℕ) (node : Node) → s ≢ at → change s node ≡ node) → (s : ℕ) → nodes_of kin g s ≡ option_map (change s) (nodes_of kin f s)
  put-nodes change here off s = grind (arith, nat_tests, cases_eq s, put-node_of kin l x)

  module _ (to : Option ℕ) where
    pub put-first : l ≡ record r { first = to } → (s : ℕ) → nodes_of kin g s ≡ option_map (forward at None to s) (nodes_of kin f s)
    put-first is = grind (arith, nat_tests, put-nodes (forward at None to), same_number, other_number)

    pub put-last : l ≡ record r { last = to } → (s : ℕ) → nodes_of kin g s ≡ option_map (backward at None to s) (nodes_of kin f s)
    put-last is = grind (arith, nat_tests, put-nodes (backward at None to), same_number, other_number)

    pub put-next : (head : ℕ) → l ≡ record r { next = to } → (s : ℕ) → nodes_of kin g s ≡ option_map (forward head (Some at) to s) (nodes_of kin f s)
    put-next head is = grind (arith, nat_tests, put-nodes (forward head (Some at) to), same_number, other_number)

    pub put-prev : (head : ℕ) → l ≡ record r { prev = to } → (s : ℕ) → nodes_of kin g s ≡ option_map (backward head (Some at) to s) (nodes_of kin f s)
    put-prev head is = grind (arith, nat_tests, put-nodes (backward head (Some at) to), same_number, other_number)

  pub put-hung : (list_owner prev next : Option ℕ) → l ≡ record r { list_owner = list_owner; prev = prev; next = next } → (s : ℕ) → nodes_of kin g s ≡ option_map (hung at list_owner prev next s) (nodes_of kin f s)
  put-hung list_owner prev next is = grind (arith, nat_tests, put-nodes (hung at list_owner prev next), same_number, other_number)

-- from what a list sees of a slot to the slot
pub slot_at : (kin : ListKind) (f : ℕ → Option RowNode) (s : ℕ) (node : Node) → nodes_of kin f s ≡ Some node → (slot : RowNode) × (f s ≡ Some slot) × (node_of kin slot ≡ node)
slot_at kin f s node there = search (rules, same_Some)

pub row_slot : (f : ℕ → Option RowNode) (s : ℕ) (row : ProcData) → rows_of f s ≡ Some row → (slot : RowNode) × (f s ≡ Some slot) × (slot.row ≡ row)
row_slot f s row there = search (rules, same_Some)

-- the slot that a number finds has the row with the number
pub slot_named-head : (f : ℕ → Option RowNode) (es : List (ℕ × ℕ)) (n s : ℕ) → slot_named f es n ≡ Some s → IsHead f s n
slot_named-head f es n s is =
    let at = some_of (lookup (nat_eq n) es) (grind (arith, nat_tests)) in
    let slot = some_of (f at.0) (grind (arith, nat_tests, at.1)) in
    grind (arith, nat_tests, at.1, slot.1)

-- the list of a number whose row is in a slot
pub list-at : (kin : ListKind) (f : ℕ → Option RowNode) → IsLinked (nodes_of kin f) → (head t : ℕ) → IsHead f head t
    → (own : RowNode) × (f head ≡ Some own) × (own.row.pid ≡ t) × IsChain (members (nodes_of kin f)) t (node_of kin own).first (node_of kin own).last
list-at kin f linked head t there =
    let own = some_and (λ (slot : RowNode). slot.row.pid ≡ t) (f head) there in
    (own.0, own.1, own.2, list-of (nodes_of kin f) linked head t (node_of kin own.0) (ap (option_map (node_of kin)) own.1) own.2)

-- and by the links that were read there
pub list-ends : (kin : ListKind) (f : ℕ → Option RowNode) → IsLinked (nodes_of kin f) → (head t : ℕ) (own : RowNode) (ends : ListLinks) → f head ≡ Some own → own.row.pid ≡ t → ends ≡ links_in kin own → IsChain (members (nodes_of kin f)) t ends.first ends.last
list-ends kin f linked head t own ends there number read = rw read (list-of (nodes_of kin f) linked head t (node_of kin own) (ap (option_map (node_of kin)) there) number)

-- a link to a nearest member leads to a slot
pub link-there : (le : ℕ → ℕ → Type 0) (kin : ListKind) (f : ℕ → Option RowNode) (t : ℕ) (P : ℕ → Type 0) (o : Option ℕ) → IsNearest le (members (nodes_of kin f)) t P o → IfSome o (λ s. IsSome (f s))
link-there le kin f t P o near = grind (arith, nat_tests, node-of, slot_at)

-- the row of a member's slot
pub member-row : (kin : ListKind) (f : ℕ → Option RowNode) (s : ℕ) (m : Member) (slot : RowNode) → members (nodes_of kin f) s ≡ Some m → f s ≡ Some slot → as_member (node_of kin slot) m.list ≡ m
member-row kin f s m slot there is = grind (arith, nat_tests, node-of, as_member, same_Some)

-- a slot that has a row keeps one if rows stay
pub still-there : (f g : ℕ → Option RowNode) → ((s : ℕ) → rows_of g s ≡ rows_of f s) → (o : Option ℕ) → IfSome o (λ s. IsSome (f s)) → IfSome o (λ s. IsSome (g s))
still-there f g rows o there = grind (arith, nat_tests)

pub ruleset put_laws = (put-rows, put-others)
