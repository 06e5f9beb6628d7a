-- The user's next process with news, by what each number of the user's block finds.
use Rattle.proc_table.proofs.CommonNames.{◌≡◌, ℕ, ◌+◌, ◌-◌, ◌<◌, ◌≤◌, true, false, List, Some, None, nat_eq, arith, ◌&&◌, AllByRecursion, nat_tests, IsUser, pid_block, InBlock, ProcData, sym, ◌∙◌}
use Rattle.proc_table.proofs.CommonNames.{process_of, Rise, InOwnBlock}
use Rattle.proc_table.specs.{Members.member, Processes.has_news, Walks.next_news}
use Rattle.proc_table.proofs.Every.{every_found}
use Rattle.proc_table.proofs.Rows.{same_number}
use Rattle.proc_table.proofs.Finds.{below_or_not}
use Rattle.proc_table.proofs.NextOf.{next-found, next-none, uid-from_block}
use Rattle.proc_table.proofs.Indexed.{HasNews, told_row}

module _ (u after : ℕ) (ps : List ProcData) (up : Rise ps) (in_own_blocks : AllByRecursion InOwnBlock ps) (news : List (List ℕ)) (has : HasNews news ps) where
  -- no number of the block between these is that of a process with news
  abbrev NoNews : ℕ → Type 0
  NoNews end = (n : ℕ) → after < n + 1000 → InBlock (pid_block u) (n + 1000) → n < end → member news n ≡ false

  -- a process of the user with news, above the number, is the one that is found or comes after it
  late : (end : ℕ) → NoNews end → (r : ProcData) → process_of r.pid ps ≡ Some r → (nat_eq r.uid u && has_news r) ≡ true → after < r.pid → end + 1000 ≤ r.pid
  late end none r at passes above = grind (arith, nat_tests, every_found InOwnBlock (λ p. nat_eq p.pid r.pid) ps r in_own_blocks at, none (r.pid - 1000), has (r.pid - 1000), below_or_not end (r.pid - 1000))

  pub next_news-none : ((n : ℕ) → after < n + 1000 → InBlock (pid_block u) (n + 1000) → member news n ≡ false) → next_news u after ps ≡ None
  next_news-none none = next-none (λ p. nat_eq p.uid u && has_news p) after ps up
      (λ r at passes. grind (arith, nat_tests, late (r.pid + 1) (λ n above its less. none n above its) r at passes, below_or_not after r.pid))

  pub next_news-found : (k : ℕ) → IsUser u → after < k + 1000 → InBlock (pid_block u) (k + 1000) → member news k ≡ true → NoNews k → next_news u after ps ≡ process_of (k + 1000) ps
  next_news-found k user above its there none =
      let row = told_row news ps has k there in
      let mine = uid-from_block u (k + 1000) row.0 ps user in_own_blocks row.1 its in
      next-found (λ p. nat_eq p.uid u && has_news p) after (k + 1000) row.0 ps up row.1 (grind (arith, nat_tests, mine, row.2, same_number u)) above
      (λ r at passes more. late k none r at passes more) ∙ sym row.1
