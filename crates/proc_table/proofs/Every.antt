-- Lists whose elements are all something.
use Rattle.proc_table.proofs.CommonNames.{nat_tests, ◌≡◌, Bool, true, false, List, [], ◌∷◌, ◌++◌, map, Some, None, rules, arith, filter, find, AllByRecursion, cases_Bool}
pub use Rattle.lwp_table.proofs.IndexLemmas.{some_of, some_and}

module _ {A : Type 0} (P Q : A → Type 0) where
  pub every_both : (xs : List A) → AllByRecursion P xs → AllByRecursion Q xs → AllByRecursion (λ a. P a × Q a) xs
  every_both [] p q = tt
  every_both (a ∷ xs) p q = ((p.0, q.0), every_both xs p.1 q.1)

  pub every_weaken : ((a : A) → P a → Q a) → (xs : List A) → AllByRecursion P xs → AllByRecursion Q xs
  every_weaken step [] p = tt
  every_weaken step (a ∷ xs) p = (step a p.0, every_weaken step xs p.1)

  pub every_map : (f : A → A) → ((a : A) → P a → Q (f a)) → (xs : List A) → AllByRecursion P xs → AllByRecursion Q (map f xs)
  every_map f step [] p = tt
  every_map f step (a ∷ xs) p = (step a p.0, every_map f step xs p.1)

  pub every_filter : (test : A → Bool) → ((a : A) → test a ≡ true → P a → Q a) → (xs : List A) → AllByRecursion P xs → AllByRecursion Q (filter test xs)
  every_filter test step [] p = tt
  every_filter test step (a ∷ xs) p = search (rules, every_filter test step xs p.1, cases_Bool)

module _ {A : Type 0} (P : A → Type 0) where
  pub every_append : (xs ys : List A) → AllByRecursion P xs → AllByRecursion P ys → AllByRecursion P (xs ++ ys)
  every_append [] ys p q = q
  every_append (a ∷ xs) ys p q = (p.0, every_append xs ys p.1 q)

  pub every_found : (test : A → Bool) (xs : List A) (a : A) → AllByRecursion P xs → find test xs ≡ Some a → P a
  every_found test [] a p found = grind (arith, nat_tests)
  every_found test (b ∷ xs) a p found = grind (arith, nat_tests, every_found test xs a p.1)

module _ {A : Type 0} (test : A → Bool) where
  pub every_untested : (xs : List A) → find test xs ≡ None → AllByRecursion (λ a. test a ≡ false) xs
  every_untested [] none = grind (arith, nat_tests)
  every_untested (a ∷ xs) none = grind (arith, nat_tests, every_untested xs)

  pub found_tested : (xs : List A) (a : A) → find test xs ≡ Some a → test a ≡ true
  found_tested [] a found = grind (arith, nat_tests)
  found_tested (b ∷ xs) a found = grind (arith, nat_tests, found_tested xs a)
