-- A request's target that is a process number: it names the process in the user's own block, and nothing outside of it.
use Rattle.requests.proofs.CommonNames.{◌≡◌, ◌<◌, ℕ, List, Option, Some, None, true, false, refl, sym, subst, leb, arith, nat_tests, IsUser, pid_block, ProcData, process_of, Rows, TableInvariant, process_of-pid}
use Rattle.std.specs.Prelude.{option_and_then, option_map}
use Rattle.pid_blocks.specs.Blocks.{in_block}
use Rattle.proc_table.proofs.Seen.{visible_process-inside, visible_process-outside}
use Rattle.requests.specs.Ptrace.{target_of}

-- a process that was found is found by its own number
again : (n : ℕ) (ps : List ProcData) (o : Option ProcData) → process_of n ps ≡ o
    → option_and_then (λ m. process_of m ps) (option_map (λ (p : ProcData). p.pid) o) ≡ o
again n ps None at = refl
again n ps (Some p) at = subst (λ m. process_of m ps ≡ Some p) (sym (process_of-pid n p ps at)) at

module _ (u n : ℕ) (rows : Rows) (kept : TableInvariant rows) (less : n < 100000) where
  small : leb n 99999 ≡ true
  small = grind (arith, nat_tests, less)

  pub target-inside : IsUser u → in_block (pid_block u) n ≡ true → target_of u n rows ≡ process_of n rows.processes
  target-inside user inside = grind (arith, small, visible_process-inside u n user rows kept inside, again n rows.processes (process_of n rows.processes) refl)

  pub target-outside : in_block (pid_block u) n ≡ false → target_of u n rows ≡ None
  target-outside outside = grind (arith, small, visible_process-outside u n rows kept outside)
