-- Look-ups by a number that elements have once, with a further test.
use Rattle.proc_table.proofs.CommonNames.{nat_tests, ◌≡◌, ℕ, ◌<◌, ◌≤◌, Bool, true, false, List, [], ◌∷◌, Some, None, refl, sym, ap, ◌∙◌, nat_eq, cond, arith, is_some, rules, ◌&&◌, filter, find}
use Rattle.proc_table.proofs.CommonNames.{count_by, AllByRecursion, list_any, sum_by-cons, LwpData, Lacks, Once, Differ, lwp_of, ProcData, process_of, seen_lwp, owns, Rows}
use Rattle.proc_table.proofs.CommonNames.{keep, Rise, InOwnersBlock, TableInvariant, IsUser}
use Rattle.std.specs.Prelude.{option_map}
use Rattle.pid_blocks.specs.Blocks.{tid_owner, in_block, pid_block, tid_block}
use Rattle.proc_table.specs.Seen.{visible_process}
use Rattle.proc_table.specs.Kept.{InOwnBlock}
use Rattle.lwp_table.proofs.Numbered.{any-found as any-is_some}
use Rattle.proc_table.proofs.Rising.{once}
use Rattle.proc_table.proofs.Every.{every_found}
use Rattle.proc_table.proofs.Rows.{other_number, process_of-pid, lwp_of-tid}

module _ {A : Type 0} (number : A → ℕ) where
  module _ (test : A → Bool) (n : ℕ) where
    none_found : (xs : List A) → Lacks number n xs → find (λ a. nat_eq (number a) n && test a) xs ≡ None
    none_found [] all = refl
    none_found (x ∷ xs) all = let other : nat_eq (number x) n ≡ false = other_number (number x) n all.0 in rw other (none_found xs all.1)

    pub find-kept : (xs : List A) → Once number xs → find (λ a. nat_eq (number a) n && test a) xs ≡ keep test (find (λ a. nat_eq (number a) n) xs)
    find-kept [] once = grind (arith, nat_tests)
    find-kept (x ∷ xs) once = grind (arith, nat_tests, find-kept xs once.1, none_found)

  pub any-found : (test : A → Bool) (xs : List A) → list_any test xs ≡ is_some (find test xs)
  any-found test xs = any-is_some test xs

-- by what only the look-up finds
module _ (u n : ℕ) (ps : List ProcData) (r : Rise ps) where
  pub visible_process-kept : find (λ p. nat_eq p.pid n && nat_eq p.uid u) ps ≡ keep (λ (p : ProcData). nat_eq p.uid u) (process_of n ps)
  visible_process-kept = find-kept (λ (p : ProcData). p.pid) (λ p. nat_eq p.uid u) n ps (once ps r)

  pub owns-kept : owns u n ps ≡ is_some (keep (λ (p : ProcData). nat_eq p.uid u) (process_of n ps))
  owns-kept = any-found (λ (p : ProcData). p.pid) (λ p. nat_eq p.pid n && nat_eq p.uid u) ps ∙ ap is_some visible_process-kept

pub seen_lwp-kept : (u n : ℕ) (rows : Rows) → Differ rows.lwps → seen_lwp u n rows ≡ keep (λ (l : LwpData). owns u l.pid rows.processes) (lwp_of n rows.lwps)
seen_lwp-kept u n rows d = find-kept (λ (l : LwpData). l.tid) (λ l. owns u l.pid rows.processes) n rows.lwps d

pub has_row : (n : ℕ) (ps : List ProcData) → is_some (process_of n ps) ≡ list_any (λ p. nat_eq p.pid n) ps
has_row n ps = sym (any-found (λ (p : ProcData). p.pid) (λ p. nat_eq p.pid n) ps)

module _ (u : ℕ) (rows : Rows) (kept : TableInvariant rows) where
  same_owner : (l : LwpData) → InOwnersBlock rows l → nat_eq (tid_owner l.tid) u ≡ owns u l.pid rows.processes
  unfolding tid_owner
  same_owner l h = grind (arith, nat_tests, every_found, owns-kept, is_some)

  pub lwps-counted : count_by (λ l. nat_eq (tid_owner l.tid) u) rows.lwps ≡ count_by (λ l. owns u l.pid rows.processes) rows.lwps
  lwps-counted = counted rows.lwps kept.in_owners_block
    where
      counted : (ls : List LwpData) → AllByRecursion (InOwnersBlock rows) ls → count_by (λ l. nat_eq (tid_owner l.tid) u) ls ≡ count_by (λ l. owns u l.pid rows.processes) ls
      counted [] all = refl
      counted (l ∷ ls) all =
          sum_by-cons (λ k. cond (nat_eq (tid_owner k.tid) u) 1 0) l ls ∙ omega (arith, counted ls all.1, ap {B = ℕ} (λ b. cond b 1 0) (same_owner l all.0), sum_by-cons (λ k. cond (owns u k.pid rows.processes) 1 0) l ls)

  pub lwps-chosen : filter (λ l. nat_eq (tid_owner l.tid) u) rows.lwps ≡ filter (λ l. owns u l.pid rows.processes) rows.lwps
  lwps-chosen = chosen rows.lwps kept.in_owners_block
    where
      chosen : (ls : List LwpData) → AllByRecursion (InOwnersBlock rows) ls → filter (λ l. nat_eq (tid_owner l.tid) u) ls ≡ filter (λ l. owns u l.pid rows.processes) ls
      chosen [] all = refl
      chosen (l ∷ ls) all = rw (same_owner l all.0, chosen ls all.1) refl

  -- no LWP has a number outside all blocks
  pub lwp-within : (n : ℕ) (l : LwpData) → lwp_of n rows.lwps ≡ Some l → (100000 ≤ l.tid) × (l.tid < 356000)
  lwp-within n l found = search (rules, every_found)

  pub home-outside : (n : ℕ) → (((100000 ≤ n) × (n < 356000)) → ⊥) → lwp_of n rows.lwps ≡ None
  home-outside n out = search (rules, lwp-within, lwp_of-tid)

-- no process has a number outside all blocks
pub pid-outside : (n : ℕ) (rows : Rows) → TableInvariant rows → (((1000 ≤ n) × (n < 65000)) → ⊥) → process_of n rows.processes ≡ None
pid-outside n rows kept out = search (rules, every_found, process_of-pid)

-- no process of a user has a number outside of the user's block
module _ (u n : ℕ) (rows : Rows) (kept : TableInvariant rows) (outside : in_block (pid_block u) n ≡ false) where
  pub visible_process-outside : visible_process u n rows ≡ None
  visible_process-outside = none rows.processes kept.in_own_blocks
    where
      none : (ps : List ProcData) → AllByRecursion InOwnBlock ps → find (λ p. nat_eq p.pid n && nat_eq p.uid u) ps ≡ None
      none [] all = refl
      none (p ∷ ps) all = grind (arith, nat_tests, all.0.block, none ps all.1)

-- and no LWP of a user's process
module _ (u n : ℕ) (rows : Rows) (kept : TableInvariant rows) (outside : in_block (tid_block u) n ≡ false) where
  pub seen_lwp-outside : seen_lwp u n rows ≡ None
  seen_lwp-outside = none rows.lwps kept.in_owners_block
    where
      none : (ls : List LwpData) → AllByRecursion (InOwnersBlock rows) ls → find (λ l. nat_eq l.tid n && owns u l.pid rows.processes) ls ≡ None
      none [] all = refl
      none (l ∷ ls) all = grind (arith, nat_tests, owns-kept u l.pid rows.processes kept.rising, is_some, all.0, none ls all.1)

-- the number of the row that a number finds
pub pid-found : (n : ℕ) (ps : List ProcData) → option_map (λ (p : ProcData). p.pid) (process_of n ps) ≡ cond (list_any (λ p. nat_eq p.pid n) ps) (Some n) None
pid-found n [] = refl
pid-found n (p ∷ ps) = grind (arith, nat_tests, pid-found n ps)

-- all processes in a user's block are the user's
module _ (u n : ℕ) (user : IsUser u) (rows : Rows) (kept : TableInvariant rows) (inside : in_block (pid_block u) n ≡ true) where
  pub visible_process-inside : visible_process u n rows ≡ process_of n rows.processes
  visible_process-inside = all rows.processes kept.in_own_blocks
    where
      all : (ps : List ProcData) → AllByRecursion InOwnBlock ps → find (λ p. nat_eq p.pid n && nat_eq p.uid u) ps ≡ process_of n ps
      all [] own = refl
      all (p ∷ ps) own = grind (arith, nat_tests, user, inside, own.0.user, own.0.block, all ps own.1)

-- and so are those of all LWPs in it
module _ (u n : ℕ) (user : IsUser u) (rows : Rows) (kept : TableInvariant rows) (inside : in_block (tid_block u) n ≡ true) where
  owned : (l : LwpData) → InOwnersBlock rows l → nat_eq l.tid n ≡ true → owns u l.pid rows.processes ≡ true
  owned l (p, at, block) same =
      let home : InOwnBlock p = every_found InOwnBlock (λ q. nat_eq q.pid l.pid) rows.processes p kept.in_own_blocks at in
      grind (arith, nat_tests, owns-kept u l.pid rows.processes kept.rising, is_some, at, block, home.user, user, inside, same)

  pub seen_lwp-inside : seen_lwp u n rows ≡ lwp_of n rows.lwps
  seen_lwp-inside = all rows.lwps kept.in_owners_block
    where
      all : (ls : List LwpData) → AllByRecursion (InOwnersBlock rows) ls → find (λ l. nat_eq l.tid n && owns u l.pid rows.processes) ls ≡ lwp_of n ls
      all [] own = refl
      all (l ∷ ls) own = grind (arith, nat_tests, owned l own.0, all ls own.1)

-- what a user sees, by what a number finds
pub ruleset process_laws = (visible_process-outside, visible_process-inside, pid-found)

pub ruleset lwp_laws = (seen_lwp-outside, seen_lwp-inside, home-outside)

pub ruleset has_laws = (any-found, has_row, home-outside)

pub ruleset number_laws = (has_row, pid-outside)
