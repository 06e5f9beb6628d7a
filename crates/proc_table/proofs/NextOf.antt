-- The user's next process, by what each number of the user's block finds.
use Rattle.proc_table.proofs.CommonNames.{◌≡◌, ℕ, ◌<◌, ◌≤◌, Bool, true, List, Some, None, nat_eq, rules, arith, ◌&&◌, ltb, find, AllByRecursion, nat_tests, IsUser, pid_block, InBlock, ProcData}
use Rattle.proc_table.proofs.CommonNames.{process_of, next_of, Rise, InOwnBlock}
use Rattle.std.specs.Prelude.{option_map}
use Rattle.proc_table.proofs.Every.{every_found}
use Rattle.proc_table.proofs.Rows.{same_number, process_of-pid}
use Rattle.proc_table.proofs.Least.{least_or_none, next_of-least}
use Rattle.proc_table.proofs.Finds.{below_or_not}

-- a row is of the user whose block has its number
pub uid-from_block : (u n : ℕ) (row : ProcData) (ps : List ProcData) → IsUser u → AllByRecursion InOwnBlock ps → process_of n ps ≡ Some row → InBlock (pid_block u) n → row.uid ≡ u
uid-from_block u n row ps user in_own_blocks found its = search (rules, every_found, process_of-pid)

-- the first row above a number that passes a test
module _ (test : ProcData → Bool) (after : ℕ) where
  pub next-found : (n : ℕ) (row : ProcData) (ps : List ProcData) → Rise ps → process_of n ps ≡ Some row → test row ≡ true → after < n
      → ((r : ProcData) → process_of r.pid ps ≡ Some r → test r ≡ true → after < r.pid → n ≤ r.pid) → find (λ p. ltb after p.pid && test p) ps ≡ Some row
  next-found n row ps up found own above least = search (rules, least_or_none, process_of-pid)

  pub next-none : (ps : List ProcData) → Rise ps → ((r : ProcData) → process_of r.pid ps ≡ Some r → test r ≡ true → r.pid ≤ after) → find (λ p. ltb after p.pid && test p) ps ≡ None
  next-none ps up none = search (rules, least_or_none)

module _ (u after : ℕ) (ps : List ProcData) (up : Rise ps) (in_own_blocks : AllByRecursion InOwnBlock ps) where
  pub next_of-found : (n : ℕ) (row : ProcData) → process_of n ps ≡ Some row → row.uid ≡ u → after < n
      → ((k : ℕ) → after < k → InBlock (pid_block u) k → k < n → process_of k ps ≡ None) → next_of u after ps ≡ Some row
  next_of-found n row found own above none = grind (arith, nat_tests, next-found (λ p. nat_eq p.uid u) after n row ps up found, same_number u, below_or_not, every_found)

  pub next_of-none : ((k : ℕ) → after < k → InBlock (pid_block u) k → process_of k ps ≡ None) → next_of u after ps ≡ None
  next_of-none none = grind (arith, nat_tests, next-none (λ p. nat_eq p.uid u) after ps up, below_or_not after, every_found)

  -- the next row is the row with its number
  pub next_of_numbered : (n : ℕ) → option_map (λ p. p.pid) (next_of u after ps) ≡ Some n → process_of n ps ≡ next_of u after ps
  next_of_numbered n its = grind (arith, nat_tests, next_of-least)
