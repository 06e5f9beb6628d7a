-- A new process at its place among the others.
use Rattle.trace_rows.proofs.CommonNames.{nat_tests, list_any, ProcData, process_of, placed, Rise, ◌≡◌, ◌≢◌, ℕ, zero, suc, ◌+◌, List, [], ◌∷◌, Bool, false, cond, ◌==◌, ◌||◌, Option, Some, IfSome, refl, arith, count_by, tracer_of}
use Rattle.trace_rows.proofs.CommonNames.{Lacks-from_any}
use Rattle.trace_rows.specs.End.{meets}
use Rattle.proc_table.proofs.Placed.{placed-found, stands, process_of-placed as other_placed}
use Rattle.trace_rows.proofs.CommonLemmas.{count-cons}
pub use Rattle.proc_table.proofs.Rising.{Rise-filter}

abbrev pub IsFree : ℕ → List ProcData → Type 0
IsFree n ps = list_any (λ q. q.pid == n) ps ≡ false

pub any-placed : (p : ProcData) (ps : List ProcData) → Rise ps → IsFree p.pid ps → (q : ProcData → Bool) → list_any q (placed p ps) ≡ (q p || list_any q ps)
any-placed p [] rise free q = refl
any-placed p (r ∷ ps) rise free q = grind (arith, nat_tests, stands p r ps rise, free, any-placed p ps rise.1)

pub count-placed : (p : ProcData) (ps : List ProcData) → Rise ps → IsFree p.pid ps → (q : ProcData → Bool) → count_by q (placed p ps) ≡ cond (q p) 1 0 + count_by q ps
count-placed p [] rise free q = count-cons q p []
count-placed p (r ∷ ps) rise free q = grind (arith, nat_tests, stands p r ps rise, free, count-placed p ps rise.1, count-cons q p (r ∷ ps), count-cons q r ps, count-cons q r (placed p ps))

module _ (p : ProcData) (ps : List ProcData) (rise : Rise ps) (free : IsFree p.pid ps) where
  pub process_of-other : (n : ℕ) → n ≢ p.pid → process_of n (placed p ps) ≡ process_of n ps
  process_of-other n other = other_placed p n other ps rise (Lacks-from_any p.pid ps free)

  pub process_of-placed : process_of p.pid (placed p ps) ≡ Some p
  process_of-placed = placed-found p ps rise (Lacks-from_any p.pid ps free)

-- Chains of tracers

-- no process has p as its tracer
abbrev pub TracesNone : List ProcData → ℕ → Type 0
TracesNone ps p = (n t : ℕ) → tracer_of ps n ≡ Some t → t ≢ p

pub meets_other : (ps qs : List ProcData) (p : ℕ) → ((n : ℕ) → n ≢ p → tracer_of qs n ≡ tracer_of ps n) → TracesNone ps p → (links q n : ℕ) → n ≢ p → meets links qs q n ≡ meets links ps q n
unfolding meets
meets_other ps qs p same none zero q n other = refl
meets_other ps qs p same none (suc links) q n other = grind (arith, nat_tests, meets_other ps qs p same none links q)

pub meets_none : (ps : List ProcData) (p : ℕ) → TracesNone ps p → (links n : ℕ) → meets links ps p n ≡ false
unfolding meets
meets_none ps p none zero n = refl
meets_none ps p none (suc links) n = grind (arith, nat_tests, meets_none ps p none links)

pub meets_new : (ps qs : List ProcData) (p : ℕ) → ((n : ℕ) → n ≢ p → tracer_of qs n ≡ tracer_of ps n) → TracesNone ps p → (o : Option ℕ) → tracer_of qs p ≡ o → IfSome o (λ t. t ≢ p) → (links : ℕ) → meets links qs p p ≡ false
unfolding meets
meets_new ps qs p same none o is other zero = refl
meets_new ps qs p same none o is other (suc links) = grind (arith, nat_tests, is, other, meets_other ps qs p same none links p, meets_none ps p none links)
