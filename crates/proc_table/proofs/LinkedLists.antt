-- The lists of both kinds after a row has moved from one to another.
use Rattle.proc_table.proofs.CommonNames.{nat_tests, false, same_Some, ◌≡◌, ◌≢◌, ℕ, List, Option, Some, None, sym, ap, ◌∙◌, inl, inr, nat_eq, cond, ◌<◌, arith, rules, lookup, option_map, cases_eq, ListKind, Tracees}
use Rattle.proc_table.proofs.CommonNames.{RowNode, IsLinked, keys, other, node_of, nodes_of, rows_of, AreLinked, IsHead}
use Rattle.proc_table.proofs.Every.{some_and}
use Rattle.proc_table.proofs.Births.{IsLinked-same, IsLinked-born, IsLinked-gone}
use Rattle.proc_table.proofs.ListNodes.{slot_at, row_slot}

-- what holds of one kind and of the other holds of both
pub each_kin : (P : ListKind → Type 0) (kin : ListKind) → P kin → P (other kin) → (k : ListKind) → P k
each_kin P kin a b k = grind (arith, nat_tests)

-- a head stays one if rows stay
pub head-kept : (f g : ℕ → Option RowNode) (h t : ℕ) → rows_of g h ≡ rows_of f h → IsHead f h t → IsHead g h t
head-kept f g h t rows there = grind (arith, nat_tests)

-- where a process's list begins
abbrev pub HasHead : (ℕ → Option RowNode) → List (ℕ × ℕ) → ℕ → Type 0
HasHead f es t = (h : ℕ) × (lookup (nat_eq t) es ≡ Some h) × IsHead f h t

module _ (kin : ListKind) (f g : ℕ → Option RowNode) (es : List (ℕ × ℕ)) (are_linked : AreLinked f es) (at : ℕ) (list_owner : Option ℕ) (linked : IsLinked (nodes_of kin g))
    (here : keys (nodes_of kin g) at ≡ option_map (λ (was : RowNode). (was.row.pid, list_owner)) (f at)) (others : (s : ℕ) → s ≢ at → keys (nodes_of kin g) s ≡ keys (nodes_of kin f) s)
    (rows : (s : ℕ) → rows_of g s ≡ rows_of f s) (apart : (s : ℕ) → nodes_of (other kin) g s ≡ nodes_of (other kin) f s) (heads : (t : ℕ) → list_owner ≡ Some t → HasHead f es t) where
  moved : (t : ℕ) → HasHead f es t → HasHead g es t
  moved t h = (h.0, h.1, head-kept f g h.0 t (rows h.0) h.2)

  was : (s : ℕ) (slot : RowNode) → g s ≡ Some slot → (old : RowNode) × (f s ≡ Some old) × (old.row ≡ slot.row)
  was s slot is = row_slot f s slot.row (sym (rows s) ∙ ap (option_map (λ (x : RowNode). x.row)) is)

  headed-here : (s : ℕ) (slot : RowNode) (t : ℕ) → g s ≡ Some slot → (node_of kin slot).list_owner ≡ Some t → HasHead g es t
  headed-here s slot t is its = elim (cases_eq s at) [
    | inl same ↦ moved t (heads t (grind (arith, nat_tests, was s slot is, here)))
    | inr off ↦ let old = was s slot is in moved t (are_linked.headed kin s old.0 t old.1 (grind (arith, nat_tests, others s off)))
  ]

  headed-there : (s : ℕ) (slot : RowNode) (t : ℕ) → g s ≡ Some slot → (node_of (other kin) slot).list_owner ≡ Some t → HasHead g es t
  headed-there s slot t is its = let old = was s slot is in moved t (are_linked.headed (other kin) s old.0 t old.1 (grind (arith, nat_tests, apart s)))

  pub are_linked-moved : AreLinked g es
  are_linked-moved = record {
    listed = λ s slot is. grind (arith, nat_tests, was s slot is, are_linked.listed s);
    linked = each_kin (λ k. IsLinked (nodes_of k g)) kin linked (IsLinked-same (nodes_of (other kin) f) (nodes_of (other kin) g) (λ s. sym (apart s)) (are_linked.linked (other kin)));
    headed = each_kin (λ k. (s : ℕ) (slot : RowNode) (t : ℕ) → g s ≡ Some slot → (node_of k slot).list_owner ≡ Some t → HasHead g es t) kin headed-here headed-there;
  }

-- all that is kept of the lists is seen in the nodes_of
pub are_linked-same : (f g : ℕ → Option RowNode) (es : List (ℕ × ℕ)) → ((k : ListKind) (s : ℕ) → nodes_of k g s ≡ nodes_of k f s) → AreLinked f es → AreLinked g es
are_linked-same f g es same are_linked = record {
  listed = λ s slot is. grind (arith, nat_tests, same Tracees s, are_linked.listed s);
  linked = λ k. IsLinked-same (nodes_of k f) (nodes_of k g) (λ s. sym (same k s)) (are_linked.linked k);
  headed = λ k s slot t is its.
      let old = slot_at k f s (node_of k slot) (grind (arith, nat_tests, same k s)) in
      let head = are_linked.headed k s old.0 t old.1 (grind (arith, nat_tests, old.2)) in
      (head.0, head.1, grind (arith, nat_tests, same Tracees head.0, head.2));
}

-- a slot more, or one less
module _ (f g : ℕ → Option RowNode) (es : List (ℕ × ℕ)) (q : ℕ) (are_linked : AreLinked f es) (others : (s : ℕ) → s ≢ q → g s ≡ f s) where
  node_of_others : (k : ListKind) (s : ℕ) → s ≢ q → nodes_of k g s ≡ nodes_of k f s
  node_of_others k s apart = ap (option_map (node_of k)) (others s apart)

  -- heads stay if their slots do
  module _ (h t : ℕ) (apart : h ≢ q) where
    pub head-apart : IsHead f h t → IsHead g h t
    head-apart there = rw (others h apart) there

  pub are_linked-born : (es' : List (ℕ × ℕ)) (new : RowNode) → f q ≡ None → g q ≡ Some new → ((k : ListKind) → (node_of k new).list_owner ≡ None) → ((k : ListKind) → (node_of k new).first ≡ None) → ((k : ListKind) → (node_of k new).last ≡ None) → 0 < new.row.pid
      → ((s : ℕ) (slot : RowNode) → f s ≡ Some slot → slot.row.pid ≢ new.row.pid) → ((pid : ℕ) → lookup (nat_eq pid) es' ≡ cond (nat_eq new.row.pid pid) (Some q) (lookup (nat_eq pid) es)) → AreLinked g es'
  are_linked-born es' new vacant has free no_first no_last positive fresh change = record {
    listed = λ s slot is. grind (arith, nat_tests, others s, fresh s slot, are_linked.listed s, change slot.row.pid);
    linked = λ k. IsLinked-born (nodes_of k f) (nodes_of k g) q (node_of_others k) (node_of k new) (are_linked.linked k) (ap (option_map (node_of k)) vacant) (ap (option_map (node_of k)) has) (free k) (no_first k) (no_last k) positive
        (λ s node there same. let slot = slot_at k f s node there in grind (arith, nat_tests, fresh s slot.0 slot.1, slot.2))
        (λ s node there names. let slot = slot_at k f s node there in unheaded k s slot.0 slot.1 (grind (arith, nat_tests, slot.2)));
    headed = λ k s slot t is its.
        let apart : s ≢ q = grind (arith, nat_tests, has, free k) in
        let head = are_linked.headed k s slot t (sym (others s apart) ∙ is) its in
        (head.0, grind (arith, nat_tests, change t, head.1, unheaded k s slot (sym (others s apart) ∙ is)), grind (arith, nat_tests, others head.0, head.2));
  }
    where
      unheaded : (k : ListKind) (s : ℕ) (slot : RowNode) → f s ≡ Some slot → (node_of k slot).list_owner ≢ Some new.row.pid
      unheaded k s slot is names =
          let head = are_linked.headed k s slot new.row.pid is names in
          let its = some_and (λ (x : RowNode). x.row.pid ≡ new.row.pid) (f head.0) head.2 in fresh head.0 its.0 its.1 its.2

  pub are_linked-gone : (old : RowNode) → f q ≡ Some old → g q ≡ None → ((k : ListKind) → (node_of k old).list_owner ≡ None) → ((k : ListKind) (s : ℕ) (slot : RowNode) → f s ≡ Some slot → (node_of k slot).list_owner ≢ Some old.row.pid)
      → (es' : List (ℕ × ℕ)) → ((p : ℕ) → nat_eq old.row.pid p ≡ false → lookup (nat_eq p) es' ≡ lookup (nat_eq p) es) → AreLinked g es'
  are_linked-gone old was vacant free unnamed es' dropped = record {
    listed = λ s slot is. grind (arith, nat_tests, same_Some, others s, are_linked.listed s slot, are_linked.listed q old was, dropped slot.row.pid);
    linked = λ k. IsLinked-gone (nodes_of k f) (nodes_of k g) q (node_of_others k) (node_of k old) (are_linked.linked k) (ap (option_map (node_of k)) was) (free k) (ap (option_map (node_of k)) vacant);
    headed = λ k s slot t is its.
        let there : f s ≡ Some slot = grind (arith, nat_tests, others s) in
        let head = are_linked.headed k s slot t there its in
        (head.0, dropped t (grind (arith, nat_tests, unnamed k s slot there)) ∙ head.1, grind (arith, nat_tests, others head.0, head.2, was, unnamed k s slot there));
  }

-- no slot
pub are_linked-none : (f : ℕ → Option RowNode) (es : List (ℕ × ℕ)) → ((s : ℕ) → f s ≡ None) → AreLinked f es
are_linked-none f es vacant = search (rules, slot_at)
