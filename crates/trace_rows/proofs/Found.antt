-- Rows that are found by their numbers.
use Rattle.trace_rows.proofs.CommonNames.{nat_tests, list_any, ProcData, process_of, is_live, Rows, is_process, IsRow, Rise, is_live_at, is_live_of, ◌≡◌, ◌∙◌, ℕ, Bool, true, ◌==◌, List, [], ◌∷◌, ap, refl, Some, IsSome, is_some, arith, ◌&&◌}
use Rattle.trace_rows.proofs.CommonNames.{exists, process_of-pid, lwp_of-tid, none_above}
use Rattle.proc_table.proofs.Rows.{row_found}
use Rattle.proc_table.proofs.Stays.{lwp_there}
use Rattle.trace_rows.proofs.Every.{and_left, any_more, find_passes, any_holds}
use Rattle.trace_rows.proofs.Passes.{own_rows}

-- a test of the row with a number
pub any_by_number : (t : ProcData → Bool) (n : ℕ) (ps : List ProcData) → Rise ps → list_any (λ r. (r.pid == n) && t r) ps ≡ exists t (process_of n ps)
any_by_number t n [] rise = refl
any_by_number t n (p ∷ ps) rise = grind (arith, nat_tests, none_above p.pid n, any_by_number t n ps rise.1, rise.0)

-- a live process is a process
pub listed : (rows : Rows) (q : ℕ) → is_live_at q rows ≡ true → is_process rows q ≡ true
listed rows q is = any_more (λ r. (r.pid == q) && is_live r) (λ r. r.pid == q) (λ r h. and_left (r.pid == q) (is_live r) h) rows.processes is

-- a number of a row finds one
pub row_there : (rows : Rows) (n : ℕ) → IsRow rows n → IsSome (process_of n rows.processes)
row_there rows n is = ap is_some (row_found n rows.processes is).1

-- and the row that is found has it
pub own_row : (n : ℕ) (p : ProcData) (ps : List ProcData) → process_of n ps ≡ Some p → process_of p.pid ps ≡ Some p
own_row n p ps at = ap (λ m. process_of m ps) (process_of-pid n p ps at) ∙ at

-- a live process is found by its number
pub live_row : (rows : Rows) (n : ℕ) → Rise rows.processes → is_live_at n rows ≡ true → (p : ProcData) × (process_of n rows.processes ≡ Some p) × (is_live p ≡ true)
live_row rows n up is = grind (arith, nat_tests, any_by_number is_live n rows.processes up, is)

pub live_found : (rows : Rows) (n : ℕ) (p : ProcData) → process_of n rows.processes ≡ Some p → is_live p ≡ true → is_live_at n rows ≡ true
live_found rows n p at live = grind (arith, nat_tests, find_passes, process_of-pid)

-- The live process that a row names

pub record LiveRow (rows : Rows) (u n : ℕ) : Type 0 where
  pub row : ProcData
  pub found : process_of n rows.processes ≡ Some row
  pub number : row.pid ≡ n
  pub user : row.uid ≡ u
  pub live : is_live row ≡ true

pub live_named : (rows : Rows) → Rise rows.processes → (u n : ℕ) → is_live_of rows u n ≡ true → LiveRow rows u n
live_named rows rise u n is = any_holds _ _ _ (λ p own h. grind (arith, nat_tests, own, h)) rows.processes (own_rows rows.processes rise) is

-- for goals on rows that are found
pub ruleset found_rows = (row_there, lwp_of-tid, lwp_there)
