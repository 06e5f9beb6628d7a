-- The place of a new process among rising numbers.
use Rattle.proc_table.proofs.CommonNames.{◌≡◌, ℕ, ◌<◌, ◌≤◌, Bool, true, false, List, [], ◌∷◌, arith, refl, sym, rules, inl, inr, nat_eq, Some, ◌⊎◌, ◌≢◌, filter, ltb, list_any, AllByRecursion}
use Rattle.proc_table.proofs.CommonNames.{cases_Bool, cases_eq, nat_tests, ProcData, placed, process_of, AllAbove, Rise}
use Rattle.proc_table.proofs.Every.{every_append, every_filter}
use Rattle.proc_table.proofs.Rows.{same_number, other_number, row_found, found_row}
use Rattle.proc_table.proofs.Rising.{Lacks, AllAbove-lower as lower}

abbrev pub below : ℕ → ProcData → Bool
below n q = ltb q.pid n

abbrev pub above : ℕ → ProcData → Bool
above n q = ltb n q.pid

ltb-no : (m n : ℕ) → n ≤ m → ltb m n ≡ false
ltb-no m n h = grind (arith, nat_tests)

none_below : (n : ℕ) (qs : List ProcData) → AllAbove n qs → filter (below n) qs ≡ []
none_below n [] a = refl
none_below n (q ∷ qs) a = let no : ltb q.pid n ≡ false = ltb-no q.pid n (omega arith) in rw no (none_below n qs a.1)

all_above : (n : ℕ) (qs : List ProcData) → AllAbove n qs → filter (above n) qs ≡ qs
all_above n [] a = refl
all_above n (q ∷ qs) a = grind (arith, nat_tests, all_above n qs a.1)

placed-later : (p q : ProcData) (qs : List ProcData) → q.pid < p.pid → placed p (q ∷ qs) ≡ q ∷ placed p qs
placed-later p q qs less = grind (arith, nat_tests, ltb-no)

placed-first : (p : ProcData) (qs : List ProcData) → AllAbove p.pid qs → placed p qs ≡ p ∷ qs
placed-first p qs all = search (rules, none_below, all_above)

-- a row comes before the new one, or after it with all that follow
pub record StandsIn (p q : ProcData) (qs : List ProcData) : Type 0 where
  pub greater : p.pid < q.pid
  pub first : placed p (q ∷ qs) ≡ p ∷ (q ∷ qs)

pub stands : (p q : ProcData) (qs : List ProcData) → Rise (q ∷ qs) → (q.pid ≡ p.pid → ⊥) → (placed p (q ∷ qs) ≡ q ∷ placed p qs) ⊎ StandsIn p q qs
stands p q qs r lacks = grind (arith, nat_tests, cases_Bool (ltb q.pid p.pid), placed-later p q qs, placed-first p (q ∷ qs), lower p.pid q.pid)

module _ (p : ProcData) where
  pub process_of-placed : (n : ℕ) → n ≢ p.pid → (ps : List ProcData) → Rise ps → Lacks p.pid ps → process_of n (placed p ps) ≡ process_of n ps
  process_of-placed n apart [] r l = let no : nat_eq p.pid n ≡ false = other_number p.pid n (λ e. apart (sym e)) in rw no refl
  process_of-placed n apart (q ∷ qs) r l = search (rules, process_of-placed n apart qs r.1 l.1, stands, cases_Bool, other_number)

  pub placed-found : (ps : List ProcData) → Rise ps → Lacks p.pid ps → process_of p.pid (placed p ps) ≡ Some p
  placed-found [] r l = rw (same_number p.pid) refl
  placed-found (q ∷ qs) r l = search (rules, placed-found qs r.1 l.1, stands, other_number, same_number)

  pub is_process-placed : (n : ℕ) (ps : List ProcData) → list_any (λ q. nat_eq q.pid n) ps ≡ true → Rise ps → Lacks p.pid ps → list_any (λ q. nat_eq q.pid n) (placed p ps) ≡ true
  is_process-placed n ps any r l = search (rules, cases_eq, found_row, placed-found, row_found, process_of-placed)

pub every_placed : (P : ProcData → Type 0) (p : ProcData) (ps : List ProcData) → P p → AllByRecursion P ps → AllByRecursion P (placed p ps)
every_placed P p ps new all = grind (arith, nat_tests, every_append P, every_filter P P)

-- numbers rise with a new one at its place
pub Rise-placed : (p : ProcData) (ps : List ProcData) → Rise ps → Lacks p.pid ps → Rise (placed p ps)
Rise-placed p [] r l = (tt, tt)
Rise-placed p (q ∷ qs) r l = elim (cases_Bool (ltb q.pid p.pid)) [
  | inl e ↦ let less : q.pid < p.pid = grind (arith, nat_tests) in rw (placed-later p q qs less) (every_placed (λ r. q.pid < r.pid) p qs less r.0, Rise-placed p qs r.1 l.1)
  | inr e ↦
      let differ : q.pid ≢ p.pid = l.0 in
      let least : p.pid ≤ q.pid = grind (arith, nat_tests) in
      let all : AllAbove p.pid (q ∷ qs) = (omega arith, lower p.pid q.pid (omega arith) qs r.0) in
      rw (placed-first p (q ∷ qs) all) (all, r)
]
