-- What each number finds after an edit, and which rows two lists of them share.
use Rattle.proc_table.proofs.CommonNames.{◌≡◌, ℕ, ◌+◌, ◌<◌, ◌≤◌, true, false, List, [], ◌∷◌, map, refl, arith, inl, inr, ◌⊎◌, cond, nat_eq, Some, None, IsSome, rules, filter, not, ltb}
use Rattle.proc_table.proofs.CommonNames.{cases_Bool, nat_tests, leb_tells, ProcData, process_of, placed, Rise, put_process}
use Rattle.proc_table.proofs.Rows.{process_of-pid, process_of-map, process_of-without, put_process-pid}
use Rattle.proc_table.proofs.Rising.{Lacks, none_above, AllAbove-lower}
pub use Rattle.std.proofs.lemmas.Bool.Decides.{eqb_tells as equal_or_not}
use Rattle.proc_table.proofs.Placed.{process_of-placed, placed-found}

pub below_or_not : (a b : ℕ) → ((ltb a b ≡ true) × (a < b)) ⊎ ((ltb a b ≡ false) × (b ≤ a))
below_or_not a b = elim (leb_tells (a + 1) b) [ inl h ↦ inl (grind (arith, nat_tests), omega arith) | inr h ↦ inr (grind (arith, nat_tests), omega arith) ]

pub find-set : (new : ProcData) (ps : List ProcData) → IsSome (process_of new.pid ps) → (n : ℕ) → process_of n (map (put_process new) ps) ≡ cond (nat_eq n new.pid) (Some new) (process_of n ps)
find-set new ps there n = search (rules, process_of-map, put_process-pid, equal_or_not, process_of-pid)

pub find-without : (pid : ℕ) (ps : List ProcData) (n : ℕ) → process_of n (filter (λ p. not (nat_eq p.pid pid)) ps) ≡ cond (nat_eq n pid) None (process_of n ps)
find-without pid ps n = elim (equal_or_not n pid) [
  | inl h ↦ rw (h.0, h.1) (gone ps)
  | inr h ↦ rw h.0 (process_of-without pid n h.1 ps)
]
  where
    gone : (qs : List ProcData) → process_of pid (filter (λ p. not (nat_eq p.pid pid)) qs) ≡ None
    gone [] = refl
    gone (q ∷ qs) = search (rules, gone qs, cases_Bool)

pub find-placed : (new : ProcData) (ps : List ProcData) → Rise ps → Lacks new.pid ps → (n : ℕ) → process_of n (placed new ps) ≡ cond (nat_eq n new.pid) (Some new) (process_of n ps)
find-placed new ps r lacks n = search (rules, equal_or_not, placed-found, process_of-placed)

-- what each number finds determines rows in rising order
pub rising_same : (xs ys : List ProcData) → Rise xs → Rise ys → ((n : ℕ) → process_of n xs ≡ process_of n ys) → xs ≡ ys
rising_same [] [] up vp same = refl
rising_same [] (y ∷ ys) up vp same = grind (arith, nat_tests, same y.pid)
rising_same (x ∷ xs) [] up vp same = grind (arith, nat_tests, same x.pid)
rising_same (x ∷ xs) (y ∷ ys) up vp same = grind (arith, nat_tests, rising_same xs ys up.1 vp.1, same x.pid, same y.pid, none_above, AllAbove-lower)
