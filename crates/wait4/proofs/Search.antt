-- Searches for the child that is reported.
use Rattle.wait4.proofs.CommonNames.{◌≡◌, ℕ, ◌≤◌, List, [], ◌∷◌, filter, find, Bool, false, ◌&&◌, ◌||◌, None, refl, arith, nat_eq, if◌then◌else◌, rules, AllByRecursion, list_any, cases_Bool}
use Rattle.wait4.proofs.CommonNames.{nat_tests, ProcData, keep, process_of, Rise, InOwnBlock, none_above, found_above, Nothing, NoChild, lesser, answer}

-- The first of two kinds is the lesser of the first ones of each

module _ (x y : ProcData → Bool) where
  pub find-lesser : (ps : List ProcData) → Rise ps → find (λ p. x p || y p) ps ≡ lesser (find x ps) (find y ps)
  find-lesser [] up = refl
  find-lesser (q ∷ ps) up = grind (arith, nat_tests, find-lesser ps up.1, found_above y q.pid ps, found_above x q.pid ps, up.0)

-- By number

none_numbered : (t : ProcData → Bool) (n : ℕ) (ps : List ProcData) → process_of n ps ≡ None → find (λ p. nat_eq p.pid n && t p) ps ≡ None
none_numbered t n [] none = refl
none_numbered t n (q ∷ ps) none = grind (arith, none, none_numbered t n ps)

pub only_numbered : (t : ProcData → Bool) (n : ℕ) (ps : List ProcData) → Rise ps → find (λ p. nat_eq p.pid n && t p) ps ≡ keep t (process_of n ps)
only_numbered t n [] up = refl
only_numbered t n (q ∷ ps) up = grind (arith, nat_tests, only_numbered t n ps up.1, none_numbered t n ps, none_above q.pid n, up.0)

-- no number outside all blocks is a row's
pub none_outside : (n : ℕ) (ps : List ProcData) → AllByRecursion InOwnBlock ps → 65000 ≤ n → process_of n ps ≡ None
none_outside n [] in_own_blocks far = refl
none_outside n (q ∷ ps) in_own_blocks far = search (rules, none_outside n ps in_own_blocks.1 far, nat_tests)

-- None passes a test that is always false

pub find-never : (t : ProcData → Bool) → ((p : ProcData) → t p ≡ false) → (ps : List ProcData) → find t ps ≡ None
find-never t never [] = refl
find-never t never (p ∷ ps) = rw (never p, find-never t never ps) refl

pub any-never : (t : ProcData → Bool) → ((p : ProcData) → t p ≡ false) → (ps : List ProcData) → list_any t ps ≡ false
any-never t never [] = refl
any-never t never (p ∷ ps) = rw (never p, any-never t never ps) refl

-- Candidates

pub find-filter : (q r : ProcData → Bool) (ps : List ProcData) → find r (filter q ps) ≡ find (λ p. q p && r p) ps
find-filter q r [] = refl
find-filter q r (p ∷ ps) = search (rules, find-filter q r ps, cases_Bool)

pub answer-none : (q : ProcData → Bool) (ps : List ProcData) → answer (filter q ps) None ≡ (if list_any q ps then Nothing else NoChild)
answer-none q [] = refl
answer-none q (p ∷ ps) = grind (arith, answer-none q ps)
