-- The sets of the processes' numbers, after each edit of the rows.
use Rattle.proc_table.proofs.CommonNames.{nat_tests, ◌≡◌, ℕ, ◌+◌, ◌-◌, ◌≤◌, true, false, List, map, arith, is_some, nat_eq, Option, Some, None, IfSome, inl, inr, ap, sym, subst, refl, ◌∙◌, option_map, ◌≢◌, filter, not, true≢false, ProcData, process_of, placed}
use Rattle.proc_table.proofs.CommonNames.{Rise, put_process}
use Rattle.std.specs.Prelude.{◌/◌}
use Rattle.std.specs.Option.{option_map_or}
use Rattle.proc_table.specs.Members.{member, IsBegun}
use Rattle.proc_table.specs.Processes.{has_news}
use Rattle.proc_table.proofs.Every.{some_of}
use Rattle.proc_table.proofs.Rows.{is_process-map, process_of-map, process_of-pid, put_process-pid}
use Rattle.proc_table.proofs.Rising.{Lacks}
use Rattle.proc_table.proofs.Finds.{equal_or_not, find-placed, find-without}
use Rattle.proc_table.proofs.Seen.{has_row}

-- the set has the numbers of these processes
abbrev pub HasNumbers : List (List ℕ) → List ProcData → Type 0
HasNumbers pids ps = (n : ℕ) → member pids n ≡ is_some (process_of (n + 1000) ps)

module _ (old new : List (List ℕ)) (ps : List ProcData) (was : HasNumbers old ps) where
  pub numbers-placed : (row : ProcData) → Rise ps → Lacks row.pid ps → 1000 ≤ row.pid → member new (row.pid - 1000) ≡ true
      → ((n : ℕ) → n ≢ row.pid - 1000 → member new n ≡ member old n) → HasNumbers new (placed row ps)
  numbers-placed row up lacks low there others = grind (arith, nat_tests, find-placed)

  pub numbers-without : (pid : ℕ) → 1000 ≤ pid → member new (pid - 1000) ≡ false
      → ((n : ℕ) → n ≢ pid - 1000 → member new n ≡ member old n) → HasNumbers new (filter (λ p. not (nat_eq p.pid pid)) ps)
  numbers-without pid low gone others = grind (arith, nat_tests, find-without)

-- the set has the numbers of those of these processes that have news
abbrev pub HasNews : List (List ℕ) → List ProcData → Type 0
HasNews news ps = (n : ℕ) → member news n ≡ option_map_or has_news (process_of (n + 1000) ps) false

found_pid : (n : ℕ) (ps : List ProcData) (o : Option ProcData) → process_of n ps ≡ o → IfSome o (λ q. q.pid ≡ n)
found_pid n ps None e = tt
found_pid n ps (Some q) e = process_of-pid n q ps e

own_number : (row : ProcData) (n : ℕ) (o : Option ProcData) → is_some o ≡ true → IfSome o (λ q. q.pid ≡ n) → n ≡ row.pid → has_news row ≡ option_map_or has_news (option_map (put_process row) o) false
own_number row n None there its at = absurd (true≢false (sym there))
own_number row n (Some q) there its at = grind (arith, nat_tests, its, at)

other_number : (row : ProcData) (n : ℕ) (o : Option ProcData) → IfSome o (λ q. q.pid ≡ n) → nat_eq n row.pid ≡ false → option_map_or has_news o false ≡ option_map_or has_news (option_map (put_process row) o) false
other_number row n None its apart = refl
other_number row n (Some q) its apart = grind (arith, nat_tests, its, apart)

module _ (old new : List (List ℕ)) (ps : List ProcData) (was : HasNews old ps) where
  pub news-placed : (row : ProcData) → Rise ps → Lacks row.pid ps → 1000 ≤ row.pid → member new (row.pid - 1000) ≡ has_news row
      → ((n : ℕ) → n ≢ row.pid - 1000 → member new n ≡ member old n) → HasNews new (placed row ps)
  news-placed row up lacks low here others n = grind (arith, nat_tests, find-placed, was n, others n)

  pub news-without : (pid : ℕ) → 1000 ≤ pid → member new (pid - 1000) ≡ false
      → ((n : ℕ) → n ≢ pid - 1000 → member new n ≡ member old n) → HasNews new (filter (λ p. not (nat_eq p.pid pid)) ps)
  news-without pid low gone others n = grind (arith, nat_tests, find-without, was n, others n)

  pub news-put : (row : ProcData) → 1000 ≤ row.pid → is_some (process_of row.pid ps) ≡ true → member new (row.pid - 1000) ≡ has_news row
      → ((n : ℕ) → n ≢ row.pid - 1000 → member new n ≡ member old n) → HasNews new (map (put_process row) ps)
  news-put row low there here others n = rw (process_of-map (put_process row) (put_process-pid row) (n + 1000) ps) (elim (equal_or_not (n + 1000) row.pid) [
    | inl e ↦ let at : n ≡ row.pid - 1000 = omega (arith, e.1) in
        ap (member new) at ∙ here ∙ own_number row (n + 1000) (process_of (n + 1000) ps) (subst (λ k. is_some (process_of k ps) ≡ true) (sym e.1) there) (found_pid (n + 1000) ps _ refl) e.1
    | inr e ↦ others n (λ same. e.1 (omega (arith, same, low))) ∙ was n ∙ other_number row (n + 1000) (process_of (n + 1000) ps) (found_pid (n + 1000) ps _ refl) e.0
  ])

-- a row in place of one with the same number, which has news if that had
pub news_same : (news : List (List ℕ)) (ps : List ProcData) → HasNews news ps → (was row : ProcData) → process_of was.pid ps ≡ Some was → row.pid ≡ was.pid → has_news row ≡ has_news was
    → HasNews news (map (put_process row) ps)
news_same news ps has was row found number same n = rw (process_of-map (put_process row) (put_process-pid row) (n + 1000) ps) (has n ∙ still (process_of (n + 1000) ps) refl)
  where
    still : (o : Option ProcData) → process_of (n + 1000) ps ≡ o → option_map_or has_news o false ≡ option_map_or has_news (option_map (put_process row) o) false
    still None e = refl
    still (Some q) e = grind (arith, nat_tests, process_of-pid (n + 1000) q ps e, found, number, same, e)

-- each of these processes has a page in the set
abbrev pub HasPages : List (List ℕ) → List ProcData → Type 0
HasPages news ps = (n : ℕ) → is_some (process_of (n + 1000) ps) ≡ true → IsBegun news (n / 64)

module _ (old new : List (List ℕ)) (ps : List ProcData) (was : HasPages old ps) (more : (k : ℕ) → IsBegun old k → IsBegun new k) where
  pub pages-placed : (row : ProcData) → Rise ps → Lacks row.pid ps → 1000 ≤ row.pid → IsBegun new ((row.pid - 1000) / 64) → HasPages new (placed row ps)
  pages-placed row up lacks low begun n there = grind (arith, nat_tests, find-placed, was n, more (n / 64))

  pub pages-without : (pid : ℕ) → HasPages new (filter (λ p. not (nat_eq p.pid pid)) ps)
  pages-without pid n there = grind (arith, nat_tests, find-without, was n, more (n / 64))

  pub pages-put : (row : ProcData) → HasPages new (map (put_process row) ps)
  pages-put row n there = grind (arith, nat_tests, process_of-map (put_process row) (put_process-pid row) (n + 1000) ps, was n, more (n / 64))

pub numbers_set : (pids : List (List ℕ)) (new : ProcData) (ps : List ProcData) → HasNumbers pids ps → HasNumbers pids (map (put_process new) ps)
numbers_set pids new ps was n = grind (arith, nat_tests, has_row, is_process-map, put_process-pid)

-- the numbers in the set are those of rows
module _ (pids : List (List ℕ)) (ps : List ProcData) (has : HasNumbers pids ps) where
  pub absent : (k : ℕ) → 1000 ≤ k → member pids (k - 1000) ≡ false → process_of k ps ≡ None
  absent k low out = grind (arith, nat_tests, true≢false)

  pub present : (n : ℕ) → member pids n ≡ true → (row : ProcData) × (process_of (1000 + n) ps ≡ Some row)
  present n there = grind (arith, nat_tests, some_of)

-- a number in the set of those with news is that of a row with news
pub told_row : (news : List (List ℕ)) (ps : List ProcData) → HasNews news ps → (n : ℕ) → member news n ≡ true → (row : ProcData) × (process_of (n + 1000) ps ≡ Some row) × (has_news row ≡ true)
told_row news ps has n there = at (process_of (n + 1000) ps) refl (sym (has n) ∙ there)
  where
    at : (o : Option ProcData) → process_of (n + 1000) ps ≡ o → option_map_or has_news o false ≡ true → (row : ProcData) × (process_of (n + 1000) ps ≡ Some row) × (has_news row ≡ true)
    at None e told = absurd (true≢false (sym told))
    at (Some row) e told = (row, e, told)
