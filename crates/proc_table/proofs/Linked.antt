-- What becomes of all lists when a node joins or leaves one.
use Rattle.proc_table.proofs.CommonNames.{◌≡◌, ◌≢◌, ℕ, ◌<◌, Option, Some, None, refl, sym, ap, ◌∙◌, arith, inl, inr, cond, is_none, rules, cases_lt, eqb_tells, nat_tests}
use Rattle.proc_table.proofs.CommonNames.{some_pair_parts, same_Some, option_map, option_and_then, IsNearest, IsChain, up, down, above, below, leads_to, Node, keys, IsNext, members}
use Rattle.proc_table.proofs.CommonNames.{at_least, IsLinked, forward, backward, hung}
use Rattle.lwp_table.specs.Chain.{Node as Member}
use Rattle.lwp_table.proofs.ChainLemmas.{AreApart, IsChain-left, IsChain-left_other}
use Rattle.lwp_table.proofs.JoinLemmas.{IsChain-joined, IsChain-joined_other}
use Rattle.proc_table.specs.Links.{member}
use Rattle.proc_table.proofs.Rows.{same_number, other_number}

-- the node of a key
pub key_node : (f : ℕ → Option Node) (s p : ℕ) (u : Option ℕ) → keys f s ≡ Some (p, u) → (node : Node) × (f s ≡ Some node) × (node.pid ≡ p) × (node.list_owner ≡ u)
key_node f s p u there = search (rules, some_pair_parts)

-- a node that names a list is a member of it
abbrev pub as_member : Node → ℕ → Member
as_member node t = record { key = node.pid; list = t; prev = node.prev; next = node.next }

pub member-of : (f : ℕ → Option Node) (s : ℕ) (node : Node) (t : ℕ) → f s ≡ Some node → node.list_owner ≡ Some t → members f s ≡ Some (as_member node t)
member-of f s node t there names = ap (option_and_then member) there ∙ ap (option_map (as_member node)) names

-- and a member is such a node
pub node-of : (f : ℕ → Option Node) (s : ℕ) (m : Member) → members f s ≡ Some m → (node : Node) × (f s ≡ Some node) × (node.list_owner ≡ Some m.list) × (as_member node m.list ≡ m)
node-of f s m there = grind (arith, nat_tests, same_Some)

-- the nearest member above a number has the next key
pub IsNext-nearest : (f : ℕ → Option Node) (t a : ℕ) (P : ℕ → Type 0) → ((s : ℕ) (node : Node) → f s ≡ Some node → P node.pid → a < node.pid) → ((k : ℕ) → a < k → P k) → (o : Option ℕ) → IsNearest up (members f) t P o → IsNext (keys f) t a o
IsNext-nearest f t a P from to None near = λ j p there. let node = key_node f j p (Some t) there in elim (cases_lt a p) [
  | inl more ↦ absurd (near j (as_member node.0 t) (member-of f j node.0 t node.1 node.3) refl (to node.0.pid (omega (arith, more, node.2))))
  | inr most ↦ most
]
IsNext-nearest f t a P from to (Some s) near =
    let own = node-of f s near.0 near.1 in (
      own.0.pid,
      grind (arith, nat_tests),
      grind (arith, nat_tests, from s own.0 own.1),
      λ j other there more.
          let node = key_node f j other (Some t) there in
          let least = near.4 j (as_member node.0 t) (member-of f j node.0 t node.1 node.3) refl (to node.0.pid (omega (arith, more, node.2))) in grind (arith, nat_tests),
    )

members-apart : (f : ℕ → Option Node) → IsLinked f → AreApart (members f)
members-apart f linked i j a b there_a there_b same = grind (arith, nat_tests, node-of)

pub positive-members : (f : ℕ → Option Node) → IsLinked f → (s : ℕ) (m : Member) → members f s ≡ Some m → 0 < m.key
positive-members f linked s m there = let node = node-of f s m there in omega (arith, linked.above_zero s node.0 node.1, ap (λ n. n.key) node.3)

-- the list of a number whose node is there
pub list-of : (f : ℕ → Option Node) → IsLinked f → (head t : ℕ) (own : Node) → f head ≡ Some own → own.pid ≡ t → IsChain (members f) t own.first own.last
list-of f linked head t own there number = rw (← number) (linked.lists head own there)

-- a member from the number of a node in no list on is above it
pub nearest-beyond : (f : ℕ → Option Node) → IsLinked f → (t q : ℕ) (old : Node) → f q ≡ Some old → old.list_owner ≡ None → (o : Option ℕ) → IsNearest up (members f) t (at_least old.pid) o → IsNearest up (members f) t (above old.pid) o
nearest-beyond f linked t q old there free = grind (arith, nat_tests, node-of, same_Some)

-- the links beside a place in the list of t are turned, and the node in q comes into this list or into none
module _ (f z : ℕ → Option Node) (linked : IsLinked f) (head t q : ℕ) (own old : Node) (has_head : f head ≡ Some own) (number : own.pid ≡ t) (has_q : f q ≡ Some old)
    (before after to from list_owner prev next : Option ℕ)
    (turned : (s : ℕ) → z s ≡ option_map (hung q list_owner prev next s) (option_map (backward head after from s) (option_map (forward head before to s) (f s)))) where
  abbrev changed : ℕ → Node → Node
  changed s node = hung q list_owner prev next s (backward head after from s (forward head before to s node))

  -- and what is seen of a member but the one in q
  abbrev beside : ℕ → Member → Member
  beside s node = record node { prev = cond (leads_to after s) from node.prev; next = cond (leads_to before s) to node.next }

  was : (s : ℕ) (node : Node) → z s ≡ Some node → (w : Node) × (f s ≡ Some w) × (changed s w ≡ node)
  was s node there = grind (arith, nat_tests, same_Some)

  members-others : (s : ℕ) → s ≢ q → members z s ≡ option_map (beside s) (members f s)
  members-others s off = grind (arith, nat_tests, turned s, other_number)

  members-here : members z q ≡ option_map (λ t. record { key = old.pid; list = t; prev = prev; next = next }) list_owner
  members-here = grind (arith, nat_tests, same_number)

  -- the lists of all, if that of t and those of others are known
  lists_changed : IsChain (members z) t (cond (is_none before) to own.first) (cond (is_none after) from own.last) → ((u : ℕ) (a b : Option ℕ) → u ≢ t → IsChain (members f) u a b → IsChain (members z) u a b) → IsLinked z
  lists_changed here others = record {
    apart = λ i j a b there_a there_b same. grind (arith, nat_tests, was i a there_a, was j b there_b, linked.apart i j);
    above_zero = λ s node there. grind (arith, nat_tests, was s node there, linked.above_zero s);
    lists = λ s node there. let w = was s node there in rw (← w.2) (elim (eqb_tells head s) [
      | inl h ↦ let same = same_Some own w.0 (sym has_head ∙ ap f h.1 ∙ w.1) in rw (h.0, ← same, number) here
      | inr h ↦ rw h.0 (others w.0.pid w.0.first w.0.last (λ same. h.1 (linked.apart head s own w.0 has_head w.1 (number ∙ sym same))) (linked.lists s w.0 w.1))
    ]);
  }

  chain : IsChain (members f) t own.first own.last
  chain = list-of f linked head t own has_head number

  pub IsLinked-joined : old.list_owner ≡ None → list_owner ≡ Some t → to ≡ Some q → from ≡ Some q → before ≡ prev → after ≡ next → IsNearest down (members f) t (below old.pid) prev → IsNearest up (members f) t (above old.pid) next → IsLinked z
  IsLinked-joined free names to_q from_q is_prev is_next prev_is next_is =
      let vacant : members f q ≡ None = ap (option_and_then member) has_q ∙ ap (option_map (as_member old)) free in
      let has : members z q ≡ Some (record { key = old.pid; list = t; prev = prev; next = next }) = members-here ∙ ap (option_map (λ t. record { key = old.pid; list = t; prev = prev; next = next })) names in
      let others = rw (to_q, from_q, is_prev, is_next) at members-others in
      let fresh : (s : ℕ) (m : Member) → members f s ≡ Some m → m.key ≢ old.pid = λ s m there same.
      let node = node-of f s m there in
      cc (vacant, there, ap (members f) (linked.apart s q node.0 old node.1 has_q (ap (λ n. n.key) node.3 ∙ same))) in
      lists_changed
      (rw (to_q, from_q, is_prev, is_next) (IsChain-joined (members f) (members z) (members-apart f linked) t own.first own.last chain q _ vacant has refl prev_is next_is others fresh))
      (IsChain-joined_other (members f) (members z) (members-apart f linked) t own.first own.last chain q _ vacant has refl prev_is next_is others fresh)

  pub IsLinked-left : old.list_owner ≡ Some t → list_owner ≡ None → before ≡ old.prev → after ≡ old.next → to ≡ old.next → from ≡ old.prev → IsLinked z
  IsLinked-left names free is_prev is_next to_next from_prev =
      let has = member-of f q old t has_q names in
      let gone : members z q ≡ None = members-here ∙ ap (option_map (λ t. record { key = old.pid; list = t; prev = prev; next = next })) free in
      let others = rw (is_prev, is_next, to_next, from_prev) at members-others in
      lists_changed
      (rw (is_prev, is_next, to_next, from_prev) (IsChain-left (members f) (members z) (members-apart f linked) t own.first own.last chain q (as_member old t) has refl gone others))
      (IsChain-left_other (members f) (members z) (members-apart f linked) t own.first own.last chain q (as_member old t) has refl gone others)
