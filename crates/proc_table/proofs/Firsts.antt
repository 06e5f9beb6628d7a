-- A walk along a list to the first row that passes a test, and that row among all rows.
use Rattle.proc_table.proofs.CommonNames.{◌≡◌, ◌≢◌, ℕ, ◌<◌, ◌≤◌, Bool, true, false, List, [], ◌∷◌, Option, Some, None, refl, sym, ap, ◌∙◌, arith, rules, ◌&&◌, ltb, find, AllByRecursion}
use Rattle.proc_table.proofs.CommonNames.{option_map, cases_Bool, cases_lt, nat_tests, same_Some, ProcData, ListKind, Children, RowNode, IsChain, Node, anywhere, above, keys, IsNext, members}
use Rattle.proc_table.proofs.CommonNames.{IsLinked, process_of, is_this, DecidesRows, find_child, list_owner, node_of, nodes_of, rows_of, slot_named, find_named, IsTied, IsFirst, all_rows, look, InOwnBlock, Rise}
use Rattle.proc_table.proofs.Rows.{same_number}
use Rattle.proc_table.proofs.Finds.{equal_or_not}
use Rattle.proc_table.proofs.Tied.{key-of-row, list_owner-of, this-is, row-of, home-of}
use Rattle.proc_table.proofs.Listing.{Rise-all_rows, in_own_blocks-all_rows}
use Rattle.proc_table.proofs.Slots.{finds}
use Rattle.proc_table.proofs.NextOf.{next-found, next-none}
use Rattle.proc_table.proofs.Linked.{key_node, as_member, member-of, list-of, IsNext-nearest}
use Rattle.proc_table.proofs.ListNodes.{slot_at}

-- the walk has passed the rows of the list up to this number, which all fail, and is at the link to the next one
pub record IsPassing (f : ℕ → Option RowNode) (kin : ListKind) (t : ℕ) (returns : ProcData → Bool → Type 0) (passed : ℕ) (link : Option ℕ) : Type 0 where
  pub next : IsNext (keys (nodes_of kin f)) t passed link
  pub past : (j : ℕ) (other : RowNode) → f j ≡ Some other → (node_of kin other).list_owner ≡ Some t → other.row.pid ≤ passed → returns other.row false

-- the slot of a member
pub member_slot : (f : ℕ → Option RowNode) (kin : ListKind) (t s p : ℕ) → keys (nodes_of kin f) s ≡ Some (p, Some t) → (slot : RowNode) × (f s ≡ Some slot) × (slot.row.pid ≡ p) × ((node_of kin slot).list_owner ≡ Some t)
member_slot f kin t s p there = search (rules, key_node, slot_at, cases_Bool, nat_tests, same_Some)

module _ (f : ℕ → Option RowNode) (kin : ListKind) (t : ℕ) (returns : ProcData → Bool → Type 0) (linked : IsLinked (nodes_of kin f)) where
  member_key : (j : ℕ) (other : RowNode) → f j ≡ Some other → (node_of kin other).list_owner ≡ Some t → keys (nodes_of kin f) j ≡ Some (other.row.pid, Some t)
  member_key j other is names = ap (λ o. option_map (λ (node : Node). (node.pid, node.list_owner)) (option_map (node_of kin) o)) is ∙ ap (λ u. Some (other.row.pid, u)) names

  pub passing-first : (head : ℕ) (slot : RowNode) → f head ≡ Some slot → slot.row.pid ≡ t → IsPassing f kin t returns 0 (node_of kin slot).first
  passing-first head slot is number = record {
    next = IsNext-nearest (nodes_of kin f) t 0 anywhere (λ s node there any. linked.above_zero s node there) (λ k more. tt) (node_of kin slot).first (list-of (nodes_of kin f) linked head t (node_of kin slot) (ap (option_map (node_of kin)) is) number).first_is;
    past = λ j other there names none. grind (arith, nat_tests, linked.above_zero j (node_of kin other));
  }

  pub passing-none : (passed : ℕ) → IsPassing f kin t returns passed None → IsFirst f kin t returns None
  passing-none passed walk = λ j other there names. walk.past j other there names (walk.next j other.row.pid (member_key j other there names))

  module _ (passed s : ℕ) (slot : RowNode) (is : f s ≡ Some slot) (walk : IsPassing f kin t returns passed (Some s)) where
    its : (slot.row.pid ≡ walk.next.0) × ((node_of kin slot).list_owner ≡ Some t)
    its = search (rules, member_slot, same_Some, cases_Bool, nat_tests)

    pub passing-above : passed < slot.row.pid
    passing-above = let above = walk.next.2 in let number = its.0 in omega (arith, above, number)

    before : (j : ℕ) (other : RowNode) → f j ≡ Some other → (node_of kin other).list_owner ≡ Some t → other.row.pid < slot.row.pid → returns other.row false
    before j other there names less = search (rules, cases_lt passed other.row.pid, member_key j other there names, its, cases_Bool, nat_tests)

    pub passing-found : returns slot.row true → IsFirst f kin t returns (Some s)
    passing-found passes = (slot, is, its.1, passes, before)

    pub passing-on : {first last : Option ℕ} → IsChain (members (nodes_of kin f)) t first last → returns slot.row false → IsPassing f kin t returns slot.row.pid (node_of kin slot).next
    passing-on chain fails = record {
      next = IsNext-nearest (nodes_of kin f) t slot.row.pid (above slot.row.pid) (λ s node there more. more) (λ k more. more) (node_of kin slot).next
          (chain.next_is s (as_member (node_of kin slot) t) (member-of (nodes_of kin f) s (node_of kin slot) t (ap (option_map (node_of kin)) is) its.1) refl);
      past = λ j other there names most. grind (arith, nat_tests, linked.apart j s (node_of kin other) (node_of kin slot), before j other there names);
    }

-- every row is above 0
pub find-above_zero : (test : ProcData → Bool) (ps : List ProcData) → AllByRecursion InOwnBlock ps → find (λ p. ltb 0 p.pid && test p) ps ≡ find test ps
find-above_zero test [] in_own_blocks = search (rules)
find-above_zero test (p ∷ ps) in_own_blocks = search (rules, find-above_zero test ps in_own_blocks.1)

-- what the walk finds is what the list of rows has, for a test that the calls decide
module _ {f : ℕ → Option RowNode} {es : List (ℕ × ℕ)} {counts : List ℕ} (tied : IsTied f es counts) (kin : ListKind) (t : ℕ) (returns : ProcData → Bool → Type 0)
    (test : ProcData → Bool) (decides : DecidesRows returns (all_rows (look (rows_of f) es)) test) where
  abbrev rows : List ProcData
  rows = all_rows (look (rows_of f) es)

  up : Rise rows
  up = Rise-all_rows _ (finds (rows_of f) es counts tied.slotted)

  whole : find (λ p. ltb 0 p.pid && (is_this t (list_owner kin p) && test p)) rows ≡ find_named kin t test rows
  whole = find-above_zero (λ p. is_this t (list_owner kin p) && test p) rows (in_own_blocks-all_rows _ (finds (rows_of f) es counts tied.slotted))

  -- a row that passes is in the list, in a slot at which no call returned false
  passer : (r : ProcData) → process_of r.pid rows ≡ Some r → (is_this t (list_owner kin r) && test r) ≡ true
      → (s : ℕ) × (slot : RowNode) × (f s ≡ Some slot) × ((node_of kin slot).list_owner ≡ Some t) × (slot.row.pid ≡ r.pid) × (returns slot.row false → ⊥)
  passer r at passes = grind (arith, nat_tests, key-of-row tied kin t r, this-is t (list_owner kin r), member_slot f kin t, row-of tied, its, same_Some)

  pub first-none : IsFirst f kin t returns None → find_named kin t test rows ≡ None
  first-none none = search (rules, next-none (λ p. is_this t (list_owner kin p) && test p) 0, whole, up, passer, cases_Bool, nat_tests)

  -- no row names a number that no row has
  pub first-unnamed : slot_named f es t ≡ None → find_named kin t test rows ≡ None
  first-unnamed none = first-none (λ j other there names. let head = tied.are_linked.headed kin j other t there names in absurd (grind (arith, nat_tests, none, head.1, head.2)))

  pub first-some : (s : ℕ) (slot : RowNode) → f s ≡ Some slot → IsFirst f kin t returns (Some s) → find_named kin t test rows ≡ Some slot.row
  first-some s slot is first =
      let names = list_owner-of tied kin s slot t is (grind (arith, nat_tests)) in
      let home = home-of tied s slot is in
      let passes : test slot.row ≡ true = grind (arith, nat_tests, decides slot.row true (row-of tied s slot is)) in
      sym whole ∙ next-found (λ p. is_this t (list_owner kin p) && test p) 0 slot.row.pid slot.row rows up (row-of tied s slot is) (rw (names, same_number t, passes) refl) (omega (arith, home.block.0))
      (λ r at both more. let found = passer r at both in grind (arith, nat_tests, found.5, first.4 found.0 found.1 found.2 found.3))

-- a row with this parent names it, unless the number is 1
pub child_found : (n : ℕ) → n ≢ 1 → (test : ProcData → Bool) (ps : List ProcData) → find_named Children n test ps ≡ find_child n test ps
child_found n apart test [] = refl
child_found n apart test (p ∷ ps) = search (rules, child_found n apart test ps, equal_or_not, nat_tests, cases_Bool)
