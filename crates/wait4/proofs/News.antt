-- The report to a wait for any child, among the processes with news.
use Rattle.wait4.proofs.CommonNames.{arith, ◌≡◌, ℕ, true, false, ◌&&◌, find, Some, None, nat_eq, nat_tests, ◌∙◌, sym, IsUser, pid_owner, ProcData, process_of, every_found, InOwnBlock, IsSound, Closed, GoodProc, sound_closed, Options, Rows, reportable, find-above_zero, least_or_none}
use Rattle.std.specs.Prelude.{◌<◌}
use Rattle.proc_table.specs.{Processes.has_news, Walks.next_news}
use Rattle.proc_table.proofs.NextOf.{next-found, next-none}
use Rattle.wait4.proofs.IsolationOfReports.{child_own}

-- no process has the number 0
pub told_above : (rows : Rows) → IsSound rows → (r : ProcData) → process_of r.pid rows.processes ≡ Some r → 0 < r.pid
told_above rows s r at = let home = every_found InOwnBlock (λ p. nat_eq p.pid r.pid) rows.processes r s.stands.in_own_blocks at in omega (arith, home.block.0)

module _ (rows : Rows) (s : IsSound rows) (u caller : ℕ) (options : Options) (user : IsUser u) (mine : pid_owner caller ≡ u) where
  closed : Closed u rows
  closed = sound_closed rows s u user

  -- a process that the caller is told of is its user's, and has news
  own_news : (r : ProcData) → process_of r.pid rows.processes ≡ Some r → reportable options caller r ≡ true → (nat_eq r.uid u && has_news r) ≡ true
  own_news r at told = grind (arith, nat_tests, child_own u caller user mine r (every_found GoodProc (λ p. nat_eq p.pid r.pid) rows.processes r closed.processes at))

  module _ (after : ℕ) (passed : (r : ProcData) → process_of r.pid rows.processes ≡ Some r → reportable options caller r ≡ true → after < r.pid) where
    pub report-none : next_news u after rows.processes ≡ None → find (reportable options caller) rows.processes ≡ None
    report-none none = sym (find-above_zero (reportable options caller) rows.processes s.stands.in_own_blocks)
        ∙ next-none (reportable options caller) 0 rows.processes s.stands.rising
        (λ r at told. grind (arith, nat_tests, none, passed r at told, own_news r at told, least_or_none (λ p. nat_eq p.uid u && has_news p) after rows.processes s.stands.rising))

    module _ (p : ProcData) (next : next_news u after rows.processes ≡ Some p) where
      pub report-found : reportable options caller p ≡ true → find (reportable options caller) rows.processes ≡ Some p
      report-found told =
          let least = rw next at (least_or_none (λ p. nat_eq p.uid u && has_news p) after rows.processes s.stands.rising) in
          sym (find-above_zero (reportable options caller) rows.processes s.stands.in_own_blocks)
          ∙ next-found (reportable options caller) 0 p.pid p rows.processes s.stands.rising least.row told (omega (arith, least.above))
          (λ r at passes above. least.least r at (passed r at passes) (own_news r at passes))

      pub report-passed : reportable options caller p ≡ false → (r : ProcData) → process_of r.pid rows.processes ≡ Some r → reportable options caller r ≡ true → p.pid < r.pid
      report-passed quiet r at told =
          let least = rw next at (least_or_none (λ p. nat_eq p.uid u && has_news p) after rows.processes s.stands.rising) in
          grind (arith, nat_tests, least.row, least.least r at (passed r at told) (own_news r at told))
