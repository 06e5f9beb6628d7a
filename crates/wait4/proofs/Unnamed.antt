-- No row names a zombie, and it has no LWP.
use Rattle.wait4.proofs.CommonNames.{◌≡◌, ℕ, false, ◌==◌, Some, None, arith, nat_tests, first_lwp, ProcData, is_live, process_of, Rows, next_tracee, next_child, InOwnBlock}
use Rattle.wait4.proofs.CommonNames.{IsLiveOf, MidStepInvariant, All-imply, All-both, find_none, live_named, every_found}

module _ (rows : Rows) (p : ProcData) (s : MidStepInvariant rows) (at : process_of p.pid rows.processes ≡ Some p) (ended : is_live p ≡ false) where
  not_live : (u : ℕ) → IsLiveOf rows u p.pid → ⊥
  not_live u is = grind (arith, live_named rows s.rising u p.pid is, at, ended)

  pub no_tracee : next_tracee p.pid 0 rows.processes ≡ None
  no_tracee = find_none _ rows.processes (All-imply _ _ (λ q link. grind (arith, nat_tests, link.tracer, not_live q.uid)) rows.processes s.linked)

  pub no_child : next_child p.pid 0 rows.processes ≡ None
  no_child = let home = every_found InOwnBlock (λ q. q.pid == p.pid) rows.processes p s.in_own_blocks at in
      find_none _ rows.processes (All-imply _ _ (λ q link. grind (arith, nat_tests, not_live q.uid, link.parent, home.block, home.user)) rows.processes s.linked)

  pub no_lwp : first_lwp p.pid rows.lwps ≡ None
  no_lwp = find_none _ rows.lwps (All-imply _ _ (λ l h. grind (arith, nat_tests, h.1 p, at, ended)) rows.lwps (All-both _ _ rows.lwps s.in_owners_block s.standing))
