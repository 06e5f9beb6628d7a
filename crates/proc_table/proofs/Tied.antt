-- What is kept of rows, lists and counts together.
use Rattle.proc_table.proofs.CommonNames.{◌≡◌, ◌≢◌, ℕ, ◌+◌, ◌-◌, ◌<◌, true, false, List, [], Option, Some, None, IsSome, subst, refl, sym, ap, ◌∙◌, ◌∷◌, nat_eq, cond, arith, length, get_or, set, map}
use Rattle.proc_table.proofs.CommonNames.{replicate, rules, filter, not, ltb, ◌&&◌, IsSomeAnd, list_any, lookup, option_map, cases_Bool, nat_tests, same_Some, IsUser, slot, ProcData, ListKind}
use Rattle.proc_table.proofs.CommonNames.{Tracees, Children, RowNode, process_of, placed, is_this, next_child, Rows, InOwnBlock, Named, IsRow, put_process, all_rows, look, keys, IsNext, pick}
use Rattle.proc_table.proofs.CommonNames.{parent_named, list_owner, node_of, nodes_of, rows_of, slot_named, AreLinked, IsTied, next_named, unlinked}
use Rattle.proc_table.proofs.Every.{some_of, some_and, every_found, every_untested}
use Rattle.proc_table.proofs.Rows.{same_number, row_found, found_row}
use Rattle.proc_table.proofs.Finds.{equal_or_not}
use Rattle.proc_table.proofs.Listing.{Rise-all_rows}
use Rattle.proc_table.proofs.NextOf.{next-found, next-none}
use Rattle.proc_table.proofs.Slots.{finds, row_there, row_listed, IsSlotted-added, IsSlotted-set, IsSlotted-removed, IsSlotted-dropped, all_rows-dropped, IsSlotted-none}
use Rattle.proc_table.proofs.Linked.{key_node}
use Rattle.proc_table.proofs.ListNodes.{slot_at}
use Rattle.proc_table.proofs.LinkedLists.{HasHead, each_kin, are_linked-same, are_linked-born, are_linked-gone, are_linked-none}

pub this-is : (n : ℕ) (o : Option ℕ) → is_this n o ≡ true → o ≡ Some n
this-is n o h = grind (arith, nat_tests)

-- what a row is and names, by kind
abbrev named : ListKind → ProcData → ℕ × Option ℕ
named k p = (p.pid, list_owner k p)

pub picked : (row : ProcData) (tracer parent : Option ℕ) → tracer ≡ row.tracer → parent ≡ parent_named row.parent → (k : ListKind) → pick k tracer parent ≡ list_owner k row
picked row tracer parent traced parted k = ap (λ u. pick k u parent) traced ∙ ap (pick k row.tracer) parted

-- a row was put in a vacant slot, in no list, and its number finds it
pub record IsBorn (f : ℕ → Option RowNode) (es : List (ℕ × ℕ)) (new : ProcData) (at : ℕ) (f1 : ℕ → Option RowNode) (es' : List (ℕ × ℕ)) : Type 0 where
  pub vacant : f at ≡ None
  pub has : f1 at ≡ Some (unlinked new)
  pub others : (s : ℕ) → s ≢ at → f1 s ≡ f s
  pub change : (pid : ℕ) → lookup (nat_eq pid) es' ≡ cond (nat_eq new.pid pid) (Some at) (lookup (nat_eq pid) es)
  pub fresh : list_any (λ p. nat_eq p.pid new.pid) (all_rows (look (rows_of f) es)) ≡ false
  pub home : InOwnBlock new

-- a slot's row was moved to the lists of these two
pub record IsRehung (f g : ℕ → Option RowNode) (es : List (ℕ × ℕ)) (at : ℕ) (tracer parent : Option ℕ) : Type 0 where
  pub are_linked : AreLinked g es
  pub rows : (s : ℕ) → rows_of g s ≡ rows_of f s
  pub here : (k : ListKind) → keys (nodes_of k g) at ≡ option_map (λ (was : RowNode). (was.row.pid, pick k tracer parent)) (f at)
  pub others : (k : ListKind) (s : ℕ) → s ≢ at → keys (nodes_of k g) s ≡ keys (nodes_of k f) s

-- a row with the same number, user, tracer and parent as another
pub record StaysInLists (p new : ProcData) : Type 0 where
  pub number : new.pid ≡ p.pid
  pub user : new.uid ≡ p.uid
  pub tracer : new.tracer ≡ p.tracer
  pub parent : new.parent ≡ p.parent

-- what is kept once the row with the number, of this user, is gone
pub record IsWithout (f : ℕ → Option RowNode) (es : List (ℕ × ℕ)) (counts : List ℕ) (pid uid : ℕ) (g : ℕ → Option RowNode) (es' : List (ℕ × ℕ)) : Type 0 where
  pub user : IsUser uid
  pub some : 0 < get_or counts (slot uid) 0
  pub tied : IsTied g es' (set counts (slot uid) (get_or counts (slot uid) 0 - 1))
  pub rows : all_rows (look (rows_of g) es') ≡ filter (λ p. not (nat_eq p.pid pid)) (all_rows (look (rows_of f) es))

module _ {f : ℕ → Option RowNode} {es : List (ℕ × ℕ)} {counts : List ℕ} (tied : IsTied f es counts) where
  -- a row's number leads to its slot
  pub head-row : (t : ℕ) → list_any (λ p. nat_eq p.pid t) (all_rows (look (rows_of f) es)) ≡ true → HasHead f es t
  head-row t any =
      let row = row_found t _ any in
      let at = row_there (rows_of f) es counts tied.slotted t row.0 row.1 in
      (at.0, at.1, grind (arith, nat_tests, at.2, at.3))

  -- a slot's row is in the list of all
  pub row-of : (s : ℕ) (slot : RowNode) → f s ≡ Some slot → process_of slot.row.pid (all_rows (look (rows_of f) es)) ≡ Some slot.row
  row-of s slot is = row_listed (rows_of f) es counts tied.slotted s slot.row (ap (option_map (λ (x : RowNode). x.row)) is)

  -- so no slot's row has a number that no row in the list has
  pub no-row : (t : ℕ) → list_any (λ p. nat_eq p.pid t) (all_rows (look (rows_of f) es)) ≡ false → (s : ℕ) (slot : RowNode) → f s ≡ Some slot → slot.row.pid ≢ t
  no-row t none s slot is same = grind (arith, nat_tests, found_row t, row-of s slot is, same)

  pub home-of : (s : ℕ) (slot : RowNode) → f s ≡ Some slot → InOwnBlock slot.row
  home-of s slot is = tied.slotted.stored.home s slot.row (ap (option_map (λ (x : RowNode). x.row)) is)

  pub below : (s : ℕ) (slot : RowNode) → f s ≡ Some slot → slot.row.pid < 65000
  below s slot is = let home = home-of s slot is in omega (arith, home.block.1, home.user.0, home.user.1)

  -- a row that names t is a member of its list
  pub key-of-row : (kin : ListKind) (t : ℕ) (r : ProcData) → process_of r.pid (all_rows (look (rows_of f) es)) ≡ Some r → list_owner kin r ≡ Some t → (s : ℕ) × (keys (nodes_of kin f) s ≡ Some (r.pid, Some t))
  key-of-row kin t r there names =
      let at = row_there (rows_of f) es counts tied.slotted r.pid r there in
      (at.0, grind (arith, nat_tests, tied.list_owners kin at.0, at.2))

  pub list_owner-of : (kin : ListKind) (s : ℕ) (slot : RowNode) (t : ℕ) → f s ≡ Some slot → (node_of kin slot).list_owner ≡ Some t → list_owner kin slot.row ≡ Some t
  list_owner-of kin s slot t is names = grind (arith, nat_tests, tied.list_owners kin s)

  -- what the links find is what the list of rows has
  module _ (kin : ListKind) (t after : ℕ) where
    pub walk-none : IsNext (keys (nodes_of kin f)) t after None → next_named kin t after (all_rows (look (rows_of f) es)) ≡ None
    walk-none next = grind (arith, nat_tests, next-none (λ (p : ProcData). is_this t (list_owner kin p)) after, finds (rows_of f) es counts tied.slotted, key-of-row kin t, this-is t, Rise-all_rows)

    pub walk-some : (s : ℕ) (slot : RowNode) → f s ≡ Some slot → IsNext (keys (nodes_of kin f)) t after (Some s) → next_named kin t after (all_rows (look (rows_of f) es)) ≡ Some slot.row
    walk-some s slot there next =
        let own = tied.list_owners kin s in
        let names = list_owner-of kin s slot t there (grind (arith, nat_tests, next.1)) in
        next-found (λ (p : ProcData). is_this t (list_owner kin p)) after slot.row.pid slot.row _ (Rise-all_rows _ (finds (rows_of f) es counts tied.slotted)) (row-of s slot there)
        (ap (is_this t) names ∙ same_number t) (grind (arith, nat_tests, next.1, next.2))
        (λ r at test more. let key = key-of-row kin t r at (this-is t (list_owner kin r) test) in grind (arith, nat_tests, next.1, next.3 key.0 r.pid key.1 more))

    -- no row names a number that no row has
    pub unnamed-slot : slot_named f es t ≡ None → next_named kin t after (all_rows (look (rows_of f) es)) ≡ None
    unnamed-slot none = walk-none (λ j p there.
        let node = key_node (nodes_of kin f) j p (Some t) there in
        let its = slot_at kin f j node.0 node.1 in
        let head = tied.are_linked.headed kin j its.0 t its.1 in
        grind (arith, nat_tests, head))

  -- if no row names a number, no slot's list is its
  pub nobody-names : (kin : ListKind) (t : ℕ) → next_named kin t 0 (all_rows (look (rows_of f) es)) ≡ None → (s : ℕ) (slot : RowNode) → f s ≡ Some slot → (node_of kin slot).list_owner ≢ Some t
  nobody-names kin t none s slot is names =
      let home = home-of s slot is in
      let it = list_owner-of kin s slot t is names in
      let fails = every_found (λ p. (ltb 0 p.pid && is_this t (list_owner kin p)) ≡ false) (λ p. nat_eq p.pid slot.row.pid) _ slot.row
      (every_untested (λ p. ltb 0 p.pid && is_this t (list_owner kin p)) (all_rows (look (rows_of f) es)) none) (row-of s slot is) in
      grind (arith, nat_tests, home.block.0)

  nobody-key : (kin : ListKind) (t : ℕ) → next_named kin t 0 (all_rows (look (rows_of f) es)) ≡ None → (s p : ℕ) → keys (nodes_of kin f) s ≡ Some (p, Some t) → ⊥
  nobody-key kin t none s p there = search (rules, key_node, slot_at, nobody-names)

  -- a row more: its slot is taken, and then linked
  module _ {f1 : ℕ → Option RowNode} {es' : List (ℕ × ℕ)} {at : ℕ} {new : ProcData} (born : IsBorn f es new at f1 es') where
    pub added-are_linked : AreLinked f1 es'
    added-are_linked = are_linked-born f f1 es at tied.are_linked born.others es' (unlinked new) born.vacant born.has (each_kin (λ k. (node_of k (unlinked new)).list_owner ≡ None) Tracees refl refl)
        (each_kin (λ k. (node_of k (unlinked new)).first ≡ None) Tracees refl refl) (each_kin (λ k. (node_of k (unlinked new)).last ≡ None) Tracees refl refl) (omega (arith, born.home.block.0)) (no-row new.pid born.fresh) born.change

    pub added-head : (t : ℕ) → HasHead f es t → HasHead f1 es' t
    added-head t head =
        let its = some_and (λ (slot : RowNode). slot.row.pid ≡ t) _ head.2 in
        let other : t ≢ new.pid = λ same. no-row new.pid born.fresh head.0 its.0 its.1 (its.2 ∙ same) in
        let apart : head.0 ≢ at = λ same. absurd (cc (its.1, ap f same, born.vacant)) in
        (head.0, grind (arith, nat_tests, born.change t, head.1, other), rw (born.others head.0 apart) head.2)

    pub added : {g : ℕ → Option RowNode} {tracer parent : Option ℕ} → IsRehung f1 g es' at tracer parent → tracer ≡ new.tracer → parent ≡ parent_named new.parent → length counts ≡ 64
        → IsTied g es' (set counts (slot new.uid) (get_or counts (slot new.uid) 0 + 1)) × (all_rows (look (rows_of g) es') ≡ placed new (all_rows (look (rows_of f) es)))
    added {g} {tracer} {parent} rehung traced parted long =
        let row_at : rows_of g at ≡ Some new = grind (arith, nat_tests, rehung.rows at, born.has) in
        let row_off : (s : ℕ) → s ≢ at → rows_of g s ≡ rows_of f s = λ s apart. grind (arith, nat_tests, rehung.rows s, born.others s) in
        let all = IsSlotted-added (rows_of f) es counts tied.slotted (rows_of g) es' at row_off new (ap (option_map (λ (x : RowNode). x.row)) born.vacant) row_at born.change born.fresh born.home long in (
          record {
            slotted = all.0;
            are_linked = rehung.are_linked;
            list_owners = λ k s. grind (arith, nat_tests, rehung.here k, rehung.others k s, born.others s, tied.list_owners k s, picked new tracer parent traced parted k, row_at, row_off s);
          },
          all.1,
        )

  -- the row that a number finds, in the slot to which it leads
  pub own-row : (f1 : ℕ → Option RowNode) {at : ℕ} {mid : RowNode} (pid : ℕ) (row : ProcData) → ((s : ℕ) → rows_of f1 s ≡ rows_of f s) → f1 at ≡ Some mid → lookup (nat_eq pid) es ≡ Some at
      → process_of pid (all_rows (look (rows_of f) es)) ≡ Some row → (mid.row ≡ row) × (row.pid ≡ pid)
  own-row f1 {at} {mid} pid row rows has number there =
      let its = row_there (rows_of f) es counts tied.slotted pid row there in
      (grind (arith, nat_tests, same_Some, rows at, its.1, its.2), its.3)

  pub taken : (f1 : ℕ → Option RowNode) (pid at : ℕ) → ((s : ℕ) → rows_of f1 s ≡ rows_of f s) → IsSome (process_of pid (all_rows (look (rows_of f) es))) → lookup (nat_eq pid) es ≡ Some at → IsSome (f1 at)
  taken f1 pid at rows there number =
      let row = some_of _ there in
      let its = row_there (rows_of f) es counts tied.slotted pid row.0 row.1 in
      grind (arith, nat_tests, same_Some, rows at, its.1, its.2)

  -- another row in a number's slot, which was linked anew
  module _ {f1 g : ℕ → Option RowNode} {at : ℕ} {new : ProcData} {mid : RowNode} {tracer parent : Option ℕ} (rehung : IsRehung f f1 es at tracer parent) (traced : tracer ≡ new.tracer) (parted : parent ≡ parent_named new.parent)
      (has1 : f1 at ≡ Some mid) (has : g at ≡ Some (record mid { row = new })) (others : (s : ℕ) → s ≢ at → g s ≡ f1 s) (number : mid.row.pid ≡ new.pid) where
    set-nodes_of : (k : ListKind) (s : ℕ) → nodes_of k g s ≡ nodes_of k f1 s
    set-nodes_of k s = grind (arith, nat_tests, number)

    pub written : IsSomeAnd (process_of new.pid (all_rows (look (rows_of f) es))) (λ was. was.uid ≡ new.uid) → IsTied g es counts × (all_rows (look (rows_of g) es) ≡ map (put_process new) (all_rows (look (rows_of f) es)))
    written there =
        let before = some_and _ _ there in
        let row_at : rows_of g at ≡ Some new = grind (arith, nat_tests, has) in
        let row_off : (s : ℕ) → s ≢ at → rows_of g s ≡ rows_of f s = λ s apart. grind (arith, nat_tests, rehung.rows s, others s) in
        let row_was : rows_of f at ≡ Some mid.row = grind (arith, nat_tests, rehung.rows at) in
        let was : mid.row ≡ before.0 = same_Some mid.row before.0 (sym (subst (λ n. process_of n (all_rows (look (rows_of f) es)) ≡ Some mid.row) number (row_listed (rows_of f) es counts tied.slotted at mid.row row_was)) ∙ before.1) in
        let all = IsSlotted-set (rows_of f) es counts tied.slotted (rows_of g) es at row_off mid.row row_was new row_at number (ap (λ (p : ProcData). p.uid) was ∙ before.2) in (
          record {
            slotted = all.0;
            are_linked = are_linked-same f1 g es set-nodes_of rehung.are_linked;
            list_owners = λ k s. grind (arith, nat_tests, set-nodes_of k s, rehung.rows at, rehung.here k, rehung.others k s, tied.list_owners k s, picked new tracer parent traced parted k, row_off s, number);
          },
          all.1,
        )

  -- a row edited in its place: it keeps its number and its user, and stays in its lists
  module _ {g : ℕ → Option RowNode} {at : ℕ} {mid : RowNode} (edit : ProcData → ProcData) (stays : (p : ProcData) → StaysInLists p (edit p)) (has : f at ≡ Some mid) (has' : g at ≡ Some (record mid { row = edit mid.row })) (others : (s : ℕ) → s ≢ at → g s ≡ f s) where
    in_place : IsRehung f f es at mid.row.tracer (parent_named mid.row.parent)
    in_place = grind (arith, nat_tests)

    pub edited-written : IsTied g es counts × (all_rows (look (rows_of g) es) ≡ map (put_process (edit mid.row)) (all_rows (look (rows_of f) es)))
    edited-written =
        let its = stays mid.row in
        written in_place (sym its.tracer) (ap parent_named (sym its.parent)) has has' others (sym its.number) (rw its.number (rw (row-of at mid has) (sym its.user)))

    pub edited-listed : (pid : ℕ) (row : ProcData) → lookup (nat_eq pid) es ≡ Some at → process_of pid (all_rows (look (rows_of f) es)) ≡ Some row
        → all_rows (look (rows_of g) es) ≡ map (put_process (edit row)) (all_rows (look (rows_of f) es))
    edited-listed pid row number there =
        let its = row_there (rows_of f) es counts tied.slotted pid row there in
        let was : mid.row ≡ row = grind (arith, nat_tests, same_Some, its.1, its.2) in
        rw was at edited-written.1

  -- one row less, which was taken out of its lists and whose number no row names and the index lacks
  pub removed : {f1 g : ℕ → Option RowNode} {at : ℕ} {mid : RowNode} → IsRehung f f1 es at None None → f1 at ≡ Some mid → g at ≡ None → ((s : ℕ) → s ≢ at → g s ≡ f1 s)
      → ((k : ListKind) → next_named k mid.row.pid 0 (all_rows (look (rows_of f) es)) ≡ None) → length counts ≡ 64
      → (es' : List (ℕ × ℕ)) → ((p : ℕ) → nat_eq mid.row.pid p ≡ false → lookup (nat_eq p) es' ≡ lookup (nat_eq p) es) → IsWithout f es counts mid.row.pid mid.row.uid g es'
  removed {f1} {g} {at} {mid} rehung has1 gone others unnamed long es' dropped =
      let row_off : (s : ℕ) → s ≢ at → rows_of g s ≡ rows_of f s = λ s apart. grind (arith, nat_tests, rehung.rows s, others s) in
      let row_was : rows_of f at ≡ Some mid.row = grind (arith, nat_tests, rehung.rows at) in
      let all = IsSlotted-removed (rows_of f) es counts tied.slotted (rows_of g) es at row_off mid.row row_was (ap (option_map (λ (x : RowNode). x.row)) gone) long in
      let free : (k : ListKind) → (node_of k mid).list_owner ≡ None = λ k. grind (arith, nat_tests, rehung.here k, rehung.rows at) in
      let unnamed1 : (k : ListKind) (s : ℕ) (x : RowNode) → f1 s ≡ Some x → (node_of k x).list_owner ≢ Some mid.row.pid =
      λ k s x is names. grind (arith, nat_tests, free k, rehung.others k s, nobody-key k mid.row.pid (unnamed k) s x.row.pid) in
      let none : (s : ℕ) (row : ProcData) → rows_of g s ≡ Some row → row.pid ≢ mid.row.pid = λ s row is same. grind (arith, nat_tests, same_Some, gone, row_off s, tied.slotted.stored.listed s row, tied.slotted.stored.listed at mid.row row_was) in record {
        user = all.0;
        some = all.1;
        tied = record {
          slotted = IsSlotted-dropped (rows_of g) es es' _ all.2 mid.row.pid dropped none;
          are_linked = are_linked-gone f1 g es at rehung.are_linked others mid has1 gone free unnamed1 es' dropped;
          list_owners = λ k s. grind (arith, nat_tests, others s, rehung.others k s, tied.list_owners k s, row_off s);
        };
        rows = all_rows-dropped (rows_of g) es es' _ all.2 mid.row.pid dropped none ∙ all.3;
      }

-- no slot
pub tied-none : (f : ℕ → Option RowNode) (es : List (ℕ × ℕ)) → ((s : ℕ) → f s ≡ None) → IsTied f es (replicate 64 0) × (all_rows (look (rows_of f) es) ≡ [])
tied-none f es vacant = grind (arith, nat_tests, IsSlotted-none (rows_of f) es (λ s. ap (option_map (λ (x : RowNode). x.row)) (vacant s)), are_linked-none f es vacant, vacant)

-- each process that a row names is a row
pub named_list_owners : (rows : Rows) (p : ProcData) → Named rows p → (k : ListKind) (t : ℕ) → list_owner k p ≡ Some t → IsRow rows t
named_list_owners rows p named = search (rules, each_kin, equal_or_not)

-- a row with this parent names it, unless the number is 1
pub children_named : (n after : ℕ) → n ≢ 1 → (ps : List ProcData) → next_named Children n after ps ≡ next_child n after ps
children_named n after apart [] = refl
children_named n after apart (p ∷ ps) = search (rules, children_named n after apart ps, equal_or_not, nat_tests, cases_Bool)
