-- What a new slot, or one less, does to the lists.
use Rattle.proc_table.proofs.CommonNames.{nat_tests, ◌≡◌, ◌≢◌, ℕ, ◌<◌, Option, Some, None, sym, ap, ◌∙◌, subst, inl, inr, arith, cases_eq, same_Some, IsChain, Node, members, IsLinked}
use Rattle.lwp_table.specs.Chain.{Node as Member}
use Rattle.proc_table.proofs.Linked.{as_member, node-of}

-- what lists see of each slot determines them
pub IsLinked-same : (f g : ℕ → Option Node) → ((s : ℕ) → f s ≡ g s) → IsLinked f → IsLinked g
IsLinked-same f g same linked = subst IsLinked (λ i s. same s i) linked

-- a list that no member names
IsChain-empty : (m : ℕ → Option Member) (t : ℕ) → ((s : ℕ) (node : Member) → m s ≡ Some node → node.list ≢ t) → IsChain m t None None
IsChain-empty m t unnamed = grind (arith, nat_tests)

module _ (f g : ℕ → Option Node) (q : ℕ) (others : (s : ℕ) → s ≢ q → g s ≡ f s) where
  -- if the slot's node is in no list, the members stay
  members-kept : ((node : Node) → f q ≡ Some node → node.list_owner ≡ None) → ((node : Node) → g q ≡ Some node → node.list_owner ≡ None) → (s : ℕ) → members f s ≡ members g s
  members-kept was_free free s = grind (arith, nat_tests, as_member)

  -- a node in no list, in a slot that had none
  pub IsLinked-born : (new : Node) → IsLinked f → f q ≡ None → g q ≡ Some new → new.list_owner ≡ None → new.first ≡ None → new.last ≡ None → 0 < new.pid
      → ((s : ℕ) (node : Node) → f s ≡ Some node → node.pid ≢ new.pid) → ((s : ℕ) (node : Node) → f s ≡ Some node → node.list_owner ≢ Some new.pid) → IsLinked g
  IsLinked-born new linked vacant has free no_first no_last positive fresh unnamed =
      let same = members-kept (λ node there. absurd (cc (vacant, there))) (λ node there. grind (arith, nat_tests)) in
      record {
        apart = λ i j a b there_a there_b number. grind (arith, nat_tests, others i, others j, linked.apart i j a b, fresh i a, fresh j b);
        above_zero = λ s node there. grind (arith, nat_tests, others s, linked.above_zero s node);
        lists = λ s node there. subst (λ (m : ℕ → Option Member). IsChain m node.pid node.first node.last) (λ i s. same s i) (elim (cases_eq s q) [
          | inl here ↦ let its : new ≡ node = grind (arith, nat_tests) in rw (← its, no_first, no_last) (IsChain-empty (members f) new.pid (λ j m at on. let n = node-of f j m at in unnamed j n.0 n.1 (n.2 ∙ ap Some on)))
          | inr off ↦ linked.lists s node (sym (others s off) ∙ there)
        ]);
      }

  -- a node in no list goes
  pub IsLinked-gone : (old : Node) → IsLinked f → f q ≡ Some old → old.list_owner ≡ None → g q ≡ None → IsLinked g
  IsLinked-gone old linked was free vacant = grind (arith, nat_tests, members-kept, same_Some)
