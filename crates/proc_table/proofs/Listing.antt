-- The list of all rows that numbers find.
use Rattle.proc_table.proofs.CommonNames.{◌≡◌, ℕ, zero, suc, ◌+◌, ◌<◌, ◌≤◌, false, [], Option, Some, None, IsSome, refl, nat_eq, cond, arith, ◌⊎◌, map, filter, not, AllByRecursion}
use Rattle.proc_table.proofs.CommonNames.{cons_option, list_any, nat_tests, ProcData, process_of, placed, AllAbove, Rise, InOwnBlock, put_process, listing, all_rows}
use Rattle.proc_table.specs.Slots.{pid_count}
use Rattle.proc_table.proofs.Rows.{put_process-pid}
use Rattle.proc_table.proofs.Rising.{none_above, Rise-map, Rise-filter, Lacks-from_any}
use Rattle.proc_table.proofs.Placed.{Rise-placed}
use Rattle.proc_table.proofs.Finds.{find-set, find-without, find-placed, rising_same}

pid_count-is : pid_count ≡ 64000
unfolding pid_count
pid_count-is = refl

-- each number finds its own row, which is at home
pub record IsFound (f : ℕ → Option ProcData) : Type 0 where
  pub named : (pid : ℕ) (row : ProcData) → f pid ≡ Some row → row.pid ≡ pid
  pub home : (pid : ℕ) (row : ProcData) → f pid ≡ Some row → InOwnBlock row

module _ (f : ℕ → Option ProcData) where
  pub all-listing : (P : ProcData → Type 0) (first count : ℕ) → ((pid : ℕ) (row : ProcData) → first ≤ pid → f pid ≡ Some row → P row) → AllByRecursion P (listing f first count)
  all-listing P first zero each = tt
  all-listing P first (suc count) each = grind (arith, nat_tests, all-listing P (first + 1) count (λ pid row above found. each pid row (omega arith) found))

  module _ (named : (pid : ℕ) (row : ProcData) → f pid ≡ Some row → row.pid ≡ pid) where
    pub above-listing : (low first count : ℕ) → low < first → AllAbove low (listing f first count)
    above-listing low first count below = all-listing (λ q. low < q.pid) first count (λ pid row above is. omega (arith, below, above, named pid row is))

    pub Rise-listing : (first count : ℕ) → Rise (listing f first count)
    Rise-listing first zero = tt
    Rise-listing first (suc count) = by (f first) refl (Rise-listing (first + 1) count)
      where
        by : (o : Option ProcData) → f first ≡ o → Rise (listing f (first + 1) count) → Rise (cons_option o (listing f (first + 1) count))
        by None is rest = rest
        by (Some row) is rest = (above-listing row.pid (first + 1) count (omega (arith, named first row is)), rest)

    pub find-listing : (pid first count : ℕ) → first ≤ pid → pid < first + count → process_of pid (listing f first count) ≡ f pid
    find-listing pid first zero from to = absurd (omega arith)
    find-listing pid first (suc count) from to = grind (arith, nat_tests, find-listing pid (first + 1) count, named first, none_above first first, above-listing first (first + 1) count)

    pub find-outside : (pid first count : ℕ) → (pid < first) ⊎ (first + count ≤ pid) → process_of pid (listing f first count) ≡ None
    find-outside pid first zero out = refl
    find-outside pid first (suc count) out = grind (arith, nat_tests, find-outside pid (first + 1) count, named first)

  module _ (found : IsFound f) where
    pub Rise-all_rows : Rise (all_rows f)
    Rise-all_rows = Rise-listing found.named 1000 pid_count

    pub in_own_blocks-all_rows : AllByRecursion InOwnBlock (all_rows f)
    in_own_blocks-all_rows = all-listing InOwnBlock 1000 pid_count (λ pid row above is. found.home pid row is)

    -- the list of all rows has what each number finds
    pub find-all_rows : (pid : ℕ) → process_of pid (all_rows f) ≡ f pid
    find-all_rows pid = by (f pid) refl
      where
        by : (o : Option ProcData) → f pid ≡ o → process_of pid (all_rows f) ≡ f pid
        by (Some row) is = let home = found.home pid row is in grind (arith, nat_tests, find-listing found.named pid 1000 pid_count, pid_count-is, found.named pid row is, home.user, home.block)
        by None is = grind (arith, nat_tests, find-listing found.named pid 1000 pid_count, find-outside found.named pid 1000 pid_count)

module _ (f g : ℕ → Option ProcData) (was : IsFound f) (is : IsFound g) where
  pub all_rows-added : (new : ProcData) → list_any (λ p. nat_eq p.pid new.pid) (all_rows f) ≡ false → ((pid : ℕ) → g pid ≡ cond (nat_eq pid new.pid) (Some new) (f pid)) → all_rows g ≡ placed new (all_rows f)
  all_rows-added new fresh change = grind (arith, nat_tests, Lacks-from_any, Rise-all_rows, rising_same, Rise-placed, find-all_rows, find-placed)

  pub all_rows-set : (new : ProcData) → IsSome (f new.pid) → ((pid : ℕ) → g pid ≡ cond (nat_eq pid new.pid) (Some new) (f pid)) → all_rows g ≡ map (put_process new) (all_rows f)
  all_rows-set new there change = grind (arith, nat_tests, find-all_rows, Rise-all_rows, rising_same, Rise-map, put_process-pid, find-set)

  pub all_rows-removed : (gone : ℕ) → ((pid : ℕ) → g pid ≡ cond (nat_eq pid gone) None (f pid)) → all_rows g ≡ filter (λ p. not (nat_eq p.pid gone)) (all_rows f)
  all_rows-removed gone change = grind (arith, nat_tests, Rise-all_rows, rising_same, Rise-filter, find-all_rows, find-without)

-- no row
pub all_rows-none : (f : ℕ → Option ProcData) → ((pid : ℕ) → f pid ≡ None) → all_rows f ≡ []
all_rows-none f none = from 1000 pid_count
  where
    from : (first count : ℕ) → listing f first count ≡ []
    from first zero = refl
    from first (suc count) = rw (none first, from (first + 1) count)
