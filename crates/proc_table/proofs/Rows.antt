-- Rows found by their numbers, before and after edits.
use Rattle.proc_table.proofs.CommonNames.{◌≡◌, ℕ, true, List, [], ◌∷◌, map, refl, sym, ap, ◌∙◌, nat_eq, is_some, Some, rules, filter, not, ◌≢◌, list_any, cases_Bool, nat_tests, LwpData}
use Rattle.proc_table.proofs.CommonNames.{lwp_of, any-found, found-number, find-map, put-number, ProcData, process_of, put_process}
use Rattle.std.specs.Prelude.{option_map}
use Rattle.proc_table.proofs.Every.{some_of}
pub use Rattle.lwp_table.proofs.WordLemmas.{test_same as same_number, test_apart as other_number}

pub process_of-pid : (n : ℕ) (p : ProcData) (ps : List ProcData) → process_of n ps ≡ Some p → p.pid ≡ n
process_of-pid n p ps found = found-number (λ (q : ProcData). q.pid) n p ps found

pub lwp_of-tid : (n : ℕ) (k : LwpData) (ls : List LwpData) → lwp_of n ls ≡ Some k → k.tid ≡ n
lwp_of-tid n k ls found = found-number (λ (l : LwpData). l.tid) n k ls found

-- a number is that of a row if a row with it is found
pub row_found : (n : ℕ) (ps : List ProcData) → list_any (λ p. nat_eq p.pid n) ps ≡ true → (p : ProcData) × (process_of n ps ≡ Some p)
row_found n ps any = some_of (process_of n ps) (sym (any-found (λ p. nat_eq p.pid n) ps) ∙ any)

pub found_row : (n : ℕ) (p : ProcData) (ps : List ProcData) → process_of n ps ≡ Some p → list_any (λ p. nat_eq p.pid n) ps ≡ true
found_row n p ps found = any-found (λ p. nat_eq p.pid n) ps ∙ ap is_some found

-- a change that keeps numbers
module _ (f : ProcData → ProcData) (same : (p : ProcData) → (f p).pid ≡ p.pid) (n : ℕ) where
  pub process_of-map : (ps : List ProcData) → process_of n (map f ps) ≡ option_map f (process_of n ps)
  process_of-map ps = find-map (λ (p : ProcData). p.pid) f same n ps

  pub is_process-map : (ps : List ProcData) → list_any (λ p. nat_eq p.pid n) (map f ps) ≡ list_any (λ p. nat_eq p.pid n) ps
  is_process-map [] = refl
  is_process-map (p ∷ ps) = search (rules, is_process-map ps, cases_Bool)

pub lwp_of-map : (f : LwpData → LwpData) → ((l : LwpData) → (f l).tid ≡ l.tid) → (n : ℕ) (ls : List LwpData) → lwp_of n (map f ls) ≡ option_map f (lwp_of n ls)
lwp_of-map f same n ls = find-map (λ (l : LwpData). l.tid) f same n ls

pub put_process-pid : (new p : ProcData) → (put_process new p).pid ≡ p.pid
put_process-pid new p = put-number (λ (q : ProcData). q.pid) new p

-- the rows without one number
module _ (pid n : ℕ) (apart : n ≢ pid) where
  pub process_of-without : (ps : List ProcData) → process_of n (filter (λ p. not (nat_eq p.pid pid)) ps) ≡ process_of n ps
  process_of-without [] = refl
  process_of-without (p ∷ ps) = search (rules, process_of-without ps, cases_Bool, other_number, nat_tests)
