-- A child by its number is in the block of the caller's user.
use Rattle.wait4.proofs.CommonNames.{arith, ◌≡◌, ℕ, Bool, true, false, Option, Some, None, refl, nat_eq, nat_tests, keep, IsUser, pid_owner, ProcData, every_found, process_of, IsSound, GoodProc, InOwnBlock, sound_closed, Rows, is_child}
use Rattle.pid_blocks.specs.Blocks.{in_block, pid_block}
use Rattle.proc_table.proofs.Rows.{process_of-pid}
use Rattle.wait4.proofs.IsolationOfReports.{child_own}

module _ (caller n : ℕ) (user : IsUser (pid_owner caller)) (rows : Rows) (s : IsSound rows) (outside : in_block (pid_block (pid_owner caller)) n ≡ false) where
  not_child : (p : ProcData) → process_of n rows.processes ≡ Some p → (b : Bool) → is_child caller p ≡ b → b ≡ false
  not_child p at false is = refl
  not_child p at true is =
      let block = (every_found InOwnBlock (λ q. nat_eq q.pid n) rows.processes p s.stands.in_own_blocks at).block in
      let good = every_found GoodProc (λ q. nat_eq q.pid n) rows.processes p (sound_closed rows s (pid_owner caller) user).processes at in
      grind (arith, nat_tests, outside, block, child_own (pid_owner caller) caller user refl p good is, process_of-pid n p rows.processes at)

  pub child-outside : keep (is_child caller) (process_of n rows.processes) ≡ None
  child-outside = by_found (process_of n rows.processes) refl
    where
      by_found : (o : Option ProcData) → process_of n rows.processes ≡ o → keep (is_child caller) o ≡ None
      by_found None at = refl
      by_found (Some p) at = rw (not_child p at (is_child caller p) refl) refl
