-- Outcomes of steps and their branches; new numbers, and the rows with a new process or LWP.
use Rattle.requests.proofs.CommonNames.{◌≡◌, ℕ, zero, suc, ◌+◌, ◌<◌, ◌≤◌, List, [], ◌∷◌, filter, find, Bool, true, false, ◌==◌, ◌&&◌, if◌then◌else◌, Option, Some, IfSome, refl, sym, ap, ap₂, ◌∙◌}
use Rattle.requests.proofs.CommonNames.{nat_tests, arith, eqb-true, subst, rules, count_by, list_any, AllByRecursion, pid_owner, pid_block, tid_block, first_free, ProcData, LwpData, is_live, process_of}
use Rattle.requests.proofs.CommonNames.{placed, Rows, owns, seen_lwp, is_process, add_process, add_lwp, lwp_count, room_for_lwp, room_for_process, GoodProc, GoodLwp, LiveRow, InBlock, any_only, Sim, own}
use Rattle.requests.proofs.CommonNames.{own_lwp, is_own, named, lwp_query, process_added_same, lwp_added_same, count-cons, and_left, and_right, by_bool, choose_both, Reply, Outcome, answers, pid_in_block}
use Rattle.requests.proofs.CommonNames.{tid_in_block, owns_owner}
use Rattle.std.proofs.Math.Path.{fun_ext}
use Rattle.trace_rows.proofs.FilteredLists.{find_some}
use Rattle.trace_rows.proofs.Placed.{process_of-placed}

-- Branches

pub record Same (u : ℕ) (start : Rows) (a b : Outcome) : Type 0 where
  pub rows : Sim u start a.rows b.rows
  pub reply : a.reply ≡ b.reply

pub answered : {u : ℕ} {start c v : Rows} → Sim u start c v → (reply : Reply) → Same u start (answers reply c) (answers reply v)
answered s reply = record { rows = s; reply = refl }

pub branch : {u : ℕ} {start : Rows} (b d : Bool) → b ≡ d → {p q p' q' : Outcome} → (b ≡ true → Same u start p p') → (b ≡ false → Same u start q q') → Same u start (if b then p else q) (if d then p' else q')
branch {u} {start} b d e {p} {q} {p'} {q'} yes' no' = subst (λ x. Same u start (if b then p else q) (if x then p' else q')) e (choose_both (Same u start) b p q p' q' yes' no')

-- What is seen of an LWP's process

pub owns_same : {u : ℕ} {start c v : Rows} → Sim u start c v → (n : ℕ) → owns u n c.processes ≡ owns u n v.processes
owns_same {u} {start} {c} {v} s n = sym (any_only (λ p. (p.pid == n) && (p.uid == u)) (own u) GoodProc (λ p good is. and_right (p.pid == n) (p.uid == u) is) c.processes s.kept.closed.processes) ∙ ap (list_any (λ p. (p.pid == n) && (p.uid == u))) s.processes

pub seen_lwp_same : {u : ℕ} {start c v : Rows} → Sim u start c v → (n : ℕ) → seen_lwp u n c ≡ seen_lwp u n v
seen_lwp_same {u} {start} {c} {v} s n =
    lwp_query s (λ l. (l.tid == n) && owns u l.pid c.processes) (λ l well is. owns_owner u l.pid c.processes s.kept.closed.processes (and_right (l.tid == n) (owns u l.pid c.processes) is))
    ∙ ap (λ q. find q v.lwps) (fun_ext (λ l. ap (λ b. (l.tid == n) && b) (owns_same s l.pid)))

pub seen_lwp_some : {u : ℕ} {start c v : Rows} → Sim u start c v → (n : ℕ) → IfSome (seen_lwp u n c) (λ l. GoodLwp l × (pid_owner l.pid ≡ u) × (l.tid ≡ n))
seen_lwp_some {u} {start} {c} s n = grind (arith, nat_tests, owns_owner, and_right, eqb-true, and_left, find_some (λ l. (l.tid == n) && owns u l.pid c.processes) GoodLwp c.lwps s.kept.closed.lwps)

-- Counts

count_only : {X : Type 0} (q p : X → Bool) (P : X → Type 0) → ((x : X) → P x → q x ≡ true → p x ≡ true) → (xs : List X) → AllByRecursion P xs → count_by q (filter p xs) ≡ count_by q xs
count_only q p P h [] e = refl
count_only {X} q p P h (x ∷ xs) e = search (rules, count_only q p P h xs e.1, count-cons, by_bool)

pub lwp_count_same : {u : ℕ} {start c v : Rows} → Sim u start c v → (n : ℕ) → pid_owner n ≡ u → lwp_count n c ≡ lwp_count n v
lwp_count_same {u} {start} {c} s n here = sym (count_only (λ l. l.pid == n) (own_lwp u) GoodLwp (λ l well is. is_own u (pid_owner l.pid) (ap pid_owner (eqb-true l.pid n is) ∙ here)) c.lwps s.kept.closed.lwps) ∙ ap (count_by (λ l. l.pid == n)) s.lwps

-- The next free number of a block depends only on that block's numbers

first_free_same : (taken other : ℕ → Bool) (count n : ℕ) → ((m : ℕ) → n ≤ m → m < n + count → taken m ≡ other m) → first_free taken count n ≡ first_free other count n
first_free_same taken other zero n h = refl
first_free_same taken other (suc count) n h = ap₂ (λ (b : Bool) (r : Option ℕ). elim b [ true ↦ r | false ↦ Some n ]) (h n (omega arith) (omega arith)) (first_free_same taken other count (n + 1) (λ m le lt. h m (omega arith) (omega arith)))

pub room_for_lwp_same : {u : ℕ} {start c v : Rows} → Sim u start c v → room_for_lwp u c ≡ room_for_lwp u v
room_for_lwp_same s = grind (arith, nat_tests, ap₂, any_only, own_lwp, is_own, eqb-true, tid_in_block, first_free_same, count_only, owns_owner, fun_ext, owns_same)

pub room_for_process_same : {u : ℕ} {start c v : Rows} → Sim u start c v → room_for_process u c ≡ room_for_process u v
room_for_process_same s = grind (arith, nat_tests, ap₂, room_for_lwp_same, count_only, own, any_only, is_own, named, pid_in_block, eqb-true, first_free_same)

-- a new process of u with its LWP
pub born_same : {u : ℕ} {start c v : Rows} → Sim u start c v → (p : ProcData) (l : LwpData) → p.uid ≡ u → GoodProc p → is_live p ≡ true → InBlock (pid_block u) p.pid → is_process c p.pid ≡ false
    → GoodLwp l → l.pid ≡ p.pid → InBlock (tid_block u) l.tid → Sim u start (add_lwp u l (add_process p c)) (add_lwp u l (add_process p v))
born_same {u} {start} {c} s p l mine good live block free well here tids = grind (arith, nat_tests, lwp_added_same (process_added_same s p mine good block free) l (ap pid_owner here ∙ good.block ∙ mine) well (subst (λ n. LiveRow (process_of n (placed p c.processes))) (sym here) (subst LiveRow (sym (process_of-placed p c.processes s.kept.closed.rising free)) live)) tids)
