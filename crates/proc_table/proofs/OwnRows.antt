-- A user's queries, if no other user has rows.
use Rattle.proc_table.proofs.CommonNames.{nat_tests, ◌≡◌, ℕ, zero, suc, ◌+◌, ◌<◌, ◌≤◌, List, [], ◌∷◌, filter, find, Bool, true, false, ◌&&◌, leb, ltb, if◌then◌else◌, Option, Some, refl}
use Rattle.proc_table.proofs.CommonNames.{ap₂, arith, nat_eq, rules, count_by, get_or, AllByRecursion, list_any, cases_Bool, IsUser, Block, pid_block, tid_block, slot, first_free}
use Rattle.proc_table.proofs.CommonNames.{next_free, InBlock, ProcData, LwpData, of_user, Rows, owns, is_process, is_lwp, process_count, lwp_count_of, fresh_pid, fresh_tid, InOwnersBlock}
use Rattle.proc_table.proofs.CommonNames.{TableInvariant, only_of, SeesOwn, NextSeesOwn, ProcessSeesOwn, LwpSeesOwn, NumberSeesOwn, CountsSeeOwn, FreshSeesOwn}
use Rattle.std.specs.Prelude.{option_map}
use Rattle.lwp_table.proofs.Numbered.{count-cons}
use Rattle.proc_table.proofs.Every.{every_found}
use Rattle.proc_table.proofs.Finds.{equal_or_not}
use Rattle.proc_table.proofs.Seen.{owns-kept}

-- if all that pass q pass p, those that fail p don't matter to q
module _ {A : Type 0} (q p : A → Bool) (P : A → Type 0) (narrow : (a : A) → P a → q a ≡ true → p a ≡ true) where
  pub find-only : (xs : List A) → AllByRecursion P xs → find q (filter p xs) ≡ find q xs
  find-only [] all = refl
  find-only (x ∷ xs) all = grind (arith, narrow x all.0, find-only xs all.1)

  pub any-only : (xs : List A) → AllByRecursion P xs → list_any q (filter p xs) ≡ list_any q xs
  any-only [] all = refl
  any-only (x ∷ xs) all = grind (arith, narrow x all.0, any-only xs all.1)

  pub count-only : (xs : List A) → AllByRecursion P xs → count_by q (filter p xs) ≡ count_by q xs
  count-only [] all = refl
  count-only (x ∷ xs) all = search (rules, count-only xs all.1, cases_Bool, count-cons)

always : {A : Type 0} (xs : List A) → AllByRecursion (λ a. Unit {0}) xs
always [] = tt
always (x ∷ xs) = (tt, always xs)

second : (a b : Bool) → (a && b) ≡ true → b ≡ true
second a b e = grind (arith, nat_tests)

abbrev own : ℕ → ProcData → Bool
own u p = nat_eq p.uid u

abbrev its_lwp : ℕ → Rows → LwpData → Bool
its_lwp u rows l = owns u l.pid rows.processes

owns_own : (u n : ℕ) (ps : List ProcData) → owns u n (of_user u ps) ≡ owns u n ps
owns_own u n ps = any-only (λ p. nat_eq p.pid n && nat_eq p.uid u) (own u) (λ p. Unit {0}) (λ p any is. second (nat_eq p.pid n) (nat_eq p.uid u) is) ps (always ps)

pub next_own : NextSeesOwn
next_own after u rows = find-only (λ p. ltb after p.pid && nat_eq p.uid u) (own u) (λ p. Unit {0}) (λ p any is. second (ltb after p.pid) (nat_eq p.uid u) is) rows.processes (always rows.processes)

pub process_own : ProcessSeesOwn
process_own n u rows = find-only (λ p. nat_eq p.pid n && nat_eq p.uid u) (own u) (λ p. Unit {0}) (λ p any is. second (nat_eq p.pid n) (nat_eq p.uid u) is) rows.processes (always rows.processes)

pub lwp_own : LwpSeesOwn
lwp_own n u rows = grind (arith, nat_tests, owns_own u, always rows.lwps, find-only, second)

pub number_own : NumberSeesOwn
number_own n u rows = ap₂ (λ (o : Option ProcData) (k : Option LwpData). if leb n 99999 then option_map (λ (p : ProcData). p.pid) o else option_map (λ (l : LwpData). l.pid) k) (process_own n u rows) (lwp_own n u rows)

pub process_count_own : SeesOwn process_count
process_count_own u rows = count-only (own u) (own u) (λ p. Unit {0}) (λ p any is. is) rows.processes (always rows.processes)

pub lwp_count_own : SeesOwn lwp_count_of
lwp_count_own u rows = grind (arith, nat_tests, owns_own u, always rows.lwps, count-only)

pub counts_own : CountsSeeOwn
counts_own = (process_count_own, lwp_count_own)

-- the next free number of a block depends only on that block's numbers
first_free-same : (taken other : ℕ → Bool) (count n : ℕ) → ((m : ℕ) → n ≤ m → m < n + count → taken m ≡ other m) → first_free taken count n ≡ first_free other count n
first_free-same taken other zero n h = refl
first_free-same taken other (suc count) n h = ap₂ (λ (b : Bool) (r : Option ℕ). elim b [ true ↦ r | false ↦ Some n ]) (h n (omega arith) (omega arith)) (first_free-same taken other count (n + 1) (λ m le lt. h m (omega arith) (omega arith)))

pub next_free-same : (b : Block) (cursor : ℕ) (taken other : ℕ → Bool) → InBlock b cursor → ((n : ℕ) → InBlock b n → taken n ≡ other n) → next_free b cursor taken ≡ next_free b cursor other
next_free-same b cursor taken other i h = search (rules, ap₂, first_free-same)

module _ (u : ℕ) (rows : Rows) (user : IsUser u) (kept : TableInvariant rows) where
  in_owners_block : (n : ℕ) → InBlock (tid_block u) n → (l : LwpData) → InOwnersBlock rows l → nat_eq l.tid n ≡ true → its_lwp u rows l ≡ true
  in_owners_block n its l house is = search (rules, equal_or_not, every_found, owns-kept)

  pub fresh_pid_own : fresh_pid u (only_of u rows) ≡ fresh_pid u rows
  fresh_pid_own = grind (arith, nat_tests, next_free-same (pid_block u) (get_or rows.pid_cursors (slot u) 0) (is_process (only_of u rows)) (is_process rows) (kept.pid_cursors u user), any-only)

  pub fresh_tid_own : fresh_tid u (only_of u rows) ≡ fresh_tid u rows
  fresh_tid_own = next_free-same (tid_block u) (get_or rows.tid_cursors (slot u) 0) (is_lwp (only_of u rows)) (is_lwp rows) (kept.tid_cursors u user)
      (λ n its. any-only (λ l. nat_eq l.tid n) (its_lwp u rows) (InOwnersBlock rows) (in_owners_block n its) rows.lwps kept.in_owners_block)

pub fresh_own : FreshSeesOwn
fresh_own = (fresh_pid_own, fresh_tid_own)

pub ruleset own_laws = (next_own, process_own, lwp_own, number_own, counts_own, fresh_own)
