-- Numbers that rise, under edits of the rows.
use Rattle.proc_table.proofs.CommonNames.{◌≡◌, ℕ, ◌<◌, ◌≤◌, Bool, true, false, List, [], ◌∷◌, map, refl, arith, nat_eq, Some, None, filter, ◌&&◌, list_any, cases_Bool, nat_tests, Once, lacks-any}
use Rattle.proc_table.proofs.CommonNames.{ProcData, process_of, AllAbove, Rise}
use Rattle.lwp_table.specs.Lwps.{Lacks as LacksNumber}
use Rattle.proc_table.proofs.Every.{every_weaken, every_map, every_filter}
use Rattle.proc_table.proofs.Rows.{other_number}

-- no process has the number
abbrev pub Lacks : ℕ → List ProcData → Type 0
Lacks n ps = LacksNumber (λ p. p.pid) n ps

-- numbers that rise differ
pub once : (ps : List ProcData) → Rise ps → Once (λ (p : ProcData). p.pid) ps
once [] r = tt
once (p ∷ ps) r = (every_weaken (λ q. p.pid < q.pid) (λ q. q.pid ≡ p.pid → ⊥) (λ q more same. omega (arith, more, same)) ps r.0, once ps r.1)

-- a map that keeps the numbers
module _ (f : ProcData → ProcData) (same : (p : ProcData) → (f p).pid ≡ p.pid) where
  pub Rise-map : (ps : List ProcData) → Rise ps → Rise (map f ps)
  Rise-map [] r = tt
  Rise-map (p ∷ ps) r = (rw (same p) (every_map (λ q. p.pid < q.pid) (λ q. p.pid < q.pid) f (λ q h. rw (same q) h) ps r.0), Rise-map ps r.1)

module _ (test : ProcData → Bool) where
  pub Rise-filter : (ps : List ProcData) → Rise ps → Rise (filter test ps)
  Rise-filter [] r = grind (arith, nat_tests)
  Rise-filter (p ∷ ps) r = grind (arith, nat_tests, Rise-filter ps r.1, cases_Bool (test p), every_filter (λ q. p.pid < q.pid) (λ q. p.pid < q.pid) test (λ q e h. h) ps r.0)

pub AllAbove-lower : (m n : ℕ) → m ≤ n → (qs : List ProcData) → AllAbove n qs → AllAbove m qs
AllAbove-lower m n h qs a = every_weaken (λ q. n < q.pid) (λ q. m < q.pid) (λ q more. omega (arith, more, h)) qs a

-- no row has a number that none is found to have
pub Lacks-from_any : (n : ℕ) (ps : List ProcData) → list_any (λ p. nat_eq p.pid n) ps ≡ false → Lacks n ps
Lacks-from_any n ps none = lacks-any (λ (p : ProcData). p.pid) n ps none

-- numbers above one lack it
pub none_above : (n m : ℕ) → m ≤ n → (ps : List ProcData) → AllAbove n ps → process_of m ps ≡ None
none_above n m h [] a = refl
none_above n m h (p ∷ ps) a = let no : nat_eq p.pid m ≡ false = other_number p.pid m (λ e. omega (arith, a.0, e)) in rw no (none_above n m h ps a.1)

-- if a user owns a process, the row with its number is found and is the user's
pub owned_found : (u n : ℕ) (ps : List ProcData) → Rise ps → list_any (λ p. nat_eq p.pid n && nat_eq p.uid u) ps ≡ true → (p : ProcData) × (process_of n ps ≡ Some p) × (p.uid ≡ u)
owned_found u n [] r any = grind (arith, nat_tests)
owned_found u n (p ∷ ps) r any = grind (arith, nat_tests, owned_found u n ps r.1, none_above)
