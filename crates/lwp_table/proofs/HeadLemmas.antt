-- The list of a process by its place among the entries.
use Rattle.lwp_table.proofs.CommonNames.{◌≡◌, ℕ, rules, true, false, List, [], ◌∷◌, Option, None, Some, nat_eq, length, refl, sym, ap, ◌∙◌, arith, nat_tests, same_Some, eqb_tells, cond, lookup, option_map, ends_at, ListHead, unwrap_or, empty_head}
use Rattle.std.specs.Prelude.{slice_get, position, Bool, if◌then◌else◌}
use Rattle.std.specs.Cmp.{nat_eq_equiv}
use Rattle.std.specs.Map.{keys_of}
use Rattle.indexmap.specs.IndexMap.{IndexMap, IsUnique, Updates, values, with_value_at}
use Rattle.std.proofs.lemmas.Option.{slice_get-map}
use Rattle.indexmap.proofs.CallerLemmas.{updates-with_value_at}

-- the place to which an index leads has the entry, and that behind the last one has none
pub placed : {X : Type 0} (pid : ℕ) (es : List (ℕ × X)) → slice_get es (unwrap_or (position (nat_eq pid) (keys_of es)) (length es)) ≡ option_map (λ ends. (pid, ends)) (lookup (nat_eq pid) es)
placed pid [] = refl
placed pid (e ∷ es) = search (rules, placed pid es, nat_tests, same_Some, eqb_tells)

-- the entry at the place of a process's list
module _ {S : Type 0} (m : IndexMap ℕ ListHead S) (i pid : ℕ) (place : slice_get m.entries i ≡ option_map (λ ends. (pid, ends)) (lookup (nat_eq pid) m.entries)) where
  same_value : slice_get (values m) i ≡ lookup (nat_eq pid) m.entries
  same_value = slice_get-map (λ (e : ℕ × ListHead). e.1) m.entries i ∙ ap (option_map (λ (e : ℕ × ListHead). e.1)) place ∙ by (lookup (nat_eq pid) m.entries)
    where
      by : (o : Option ListHead) → option_map (λ (e : ℕ × ListHead). e.1) (option_map (λ ends. (pid, ends)) o) ≡ o
      by None = refl
      by (Some ends) = refl

  -- its ends, or those of an empty list
  pub had : (o : Option ListHead) → o ≡ slice_get (values m) i → ends_at m.entries pid ≡ unwrap_or o empty_head
  had o is = ap (λ x. unwrap_or x empty_head) (sym (is ∙ same_value))

  -- after a write of the ends at this place
  pub written : IsUnique nat_eq m → (was w : ListHead) → Some was ≡ slice_get (values m) i → (q : ℕ) → ends_at (with_value_at m i w).entries q ≡ if nat_eq pid q then w else ends_at m.entries q
  written unique was w is q = ap (λ x. unwrap_or x empty_head) ((updates-with_value_at m i w nat_eq_equiv unique pid was (place ∙ ap (option_map (λ ends. (pid, ends))) (sym (is ∙ same_value)))).0 q) ∙ by (nat_eq pid q)
    where
      by : (b : Bool) → unwrap_or (cond b (Some w) (lookup (nat_eq q) m.entries)) empty_head ≡ (if b then w else ends_at m.entries q)
      by true = refl
      by false = refl

  -- after a change of the list's ends, and if the process has no list
  pub changed : IsUnique nat_eq m → (change : ListHead → ListHead) → (was w : ListHead) → Some was ≡ slice_get (values m) i → w ≡ change was → (q : ℕ) → ends_at (with_value_at m i w).entries q ≡ if nat_eq pid q then change (ends_at m.entries q) else ends_at m.entries q
  changed unique change was w is made q = written unique was w is q ∙ by (nat_eq pid q) refl
    where
      by : (b : Bool) → nat_eq pid q ≡ b → (if b then w else ends_at m.entries q) ≡ (if b then change (ends_at m.entries q) else ends_at m.entries q)
      by true e = let same : pid ≡ q = grind (arith, nat_tests, e) in made ∙ ap change (sym (had (Some was) is) ∙ ap (ends_at m.entries) same)
      by false e = refl

  pub unchanged : None ≡ slice_get (values m) i → (change : ListHead → ListHead) → change empty_head ≡ empty_head → (q : ℕ) → ends_at m.entries q ≡ if nat_eq pid q then change (ends_at m.entries q) else ends_at m.entries q
  unchanged is change same q = by (nat_eq pid q) refl
    where
      by : (b : Bool) → nat_eq pid q ≡ b → ends_at m.entries q ≡ (if b then change (ends_at m.entries q) else ends_at m.entries q)
      by true e = let at : pid ≡ q = grind (arith, nat_tests, e) in let none = sym (ap (ends_at m.entries) at) ∙ had None is in none ∙ sym same ∙ ap change (sym none)
      by false e = refl

  -- after an insertion of a list, if the process had none
  pub added : None ≡ slice_get (values m) i → (n : IndexMap ℕ ListHead S) (change : ListHead → ListHead) (w : ListHead) → Updates nat_eq m n pid (Some w) → w ≡ change empty_head → (q : ℕ) → ends_at n.entries q ≡ if nat_eq pid q then change (ends_at m.entries q) else ends_at m.entries q
  added is n change w updates made q = ap (λ x. unwrap_or x empty_head) (updates.0 q) ∙ by (nat_eq pid q) refl
    where
      by : (b : Bool) → nat_eq pid q ≡ b → unwrap_or (cond b (Some w) (lookup (nat_eq q) m.entries)) empty_head ≡ (if b then change (ends_at m.entries q) else ends_at m.entries q)
      by true e = let at : pid ≡ q = grind (arith, nat_tests, e) in made ∙ ap change (sym (had None is) ∙ ap (ends_at m.entries) at)
      by false e = refl
