-- Posting signals, and running on.
use Rattle.std.proofs.Common.{◌≡◌, ◌≢◌, ℕ, List, [], ◌∷◌, Bool, false, ◌==◌, if◌then◌else◌, Option, Some, None, option_map, IfSome, refl, sym, ap, ◌∙◌, arith, subst, inl, rules}
use Rattle.trace_rows.proofs.CommonNames.{settled_lwp, nat_tests, AllByRecursion, list_any, IsUser, SIGCHLD, ProcData, LwpData, process_of, Rows, is_numbered, change, settled_process, settle, posted_process, posted_lwp}
use Rattle.trace_rows.proofs.CommonNames.{notified, notifies, posted, reported, run_on, resumed, detached}
use Rattle.pid_blocks.specs.Blocks.{pid_owner}
use Rattle.trace_rows.specs.declared.Resumption.{Resumption}
use Rattle.trace_rows.specs.Closed.{Mine, GoodProc, GoodLwp}
use Rattle.trace_rows.proofs.Every.{choose}
use Rattle.trace_rows.proofs.IsolationRelation.{Sim, SameOwnershipLwp, not_own, named, process_same, at_number, each_same}
use Rattle.trace_rows.proofs.IsolationOfEdits.{Stays, StaysLwp, stays_if, kin_of, change_same}

abbrev pub Mines : ℕ → List ℕ → Type 0
Mines u ns = AllByRecursion (Mine u) ns

pub owner_of_1 : pid_owner 1 ≡ 1000
unfolding pid_owner
owner_of_1 = refl

pub not_one : (p : ProcData) → GoodProc p → p.pid ≢ 1
not_one p good e = let here = sym good.block ∙ ap pid_owner e ∙ owner_of_1 in let user = good.user.0 in absurd (omega arith)

pub user_not_one : (u n : ℕ) → IsUser u → pid_owner n ≡ u → n ≢ 1
user_not_one u n user mine e = let here = sym mine ∙ ap pid_owner e ∙ owner_of_1 in let least = user.0 in absurd (omega arith)

-- no other user's number is in a list of u's numbers
pub not_among : {u : ℕ} (n : ℕ) (ns : List ℕ) → Mines u ns → n ≢ 1 → pid_owner n ≢ u → list_any (λ m. m == n) ns ≡ false
not_among n [] all one ne = refl
not_among {u} n (m ∷ ms) all one ne = grind (arith, nat_tests, all.0, one, ne, not_among n ms all.1 one ne)

pub is_numbered_foreign : {u : ℕ} (n : ℕ) → pid_owner n ≡ u → (p : ProcData) → GoodProc p → p.uid ≢ u → is_numbered n p ≡ false
is_numbered_foreign n here p good ne = not_own n p.pid (λ e. ne (named here p good e))

pub settle_same : {u : ℕ} {start c v : Rows} → Sim u start c v → (n : ℕ) → pid_owner n ≡ u → Sim u start (settle n c) (settle n v)
settle_same s n here = change_same s (is_numbered n) settled_process settled_lwp (is_numbered_foreign n here) (λ p good is e. grind (arith, good)) (λ p l good well. (refl, record { block = well.block; waits = well.waits }))

posted_stays : (s : ℕ) (to : Option ℕ) (p : ProcData) → GoodProc p → Stays p (posted_process s to p)
posted_stays s to p good = search (rules, choose)

pub notified_same : {u : ℕ} {start c v : Rows} → Sim u start c v → (ns : List ℕ) → Mines u ns → Sim u start (notified ns c) (notified ns v)
notified_same s ns all = change_same s (λ p. list_any (λ n. n == p.pid) ns) (posted_process SIGCHLD None) (posted_lwp SIGCHLD None)
    (λ p good ne. not_among p.pid ns all (not_one p good) (λ e. ne (sym good.block ∙ e)))
    (λ p good is e. posted_stays SIGCHLD None p good) (λ p l good well. (refl, record { block = well.block; waits = well.waits }))

pub own_some : {u : ℕ} {start c v : Rows} → Sim u start c v → (n : ℕ) → pid_owner n ≡ u → IfSome (process_of n c.processes) (λ p. GoodProc p × (p.uid ≡ u))
own_some {u} {start} {c} s n here = at_number c.processes s.kept.closed.processes n (λ o. IfSome o (λ p. GoodProc p × (p.uid ≡ u))) tt (λ p is good at. (good, named here p good at))

pub posted_same : {u : ℕ} {start c v : Rows} → Sim u start c v → (sig : ℕ) (to : Option ℕ) (n : ℕ) → pid_owner n ≡ u → Sim u start (posted sig to n c) (posted sig to n v)
posted_same {u} {start} {c} {v} s sig to n here = subst (λ o. Sim u start (posted sig to n c) (notified (notifies sig o) (change (is_numbered n) (posted_process sig to) (posted_lwp sig to) v))) (process_same s n here)
    (notified_same (change_same s (is_numbered n) (posted_process sig to) (posted_lwp sig to) (is_numbered_foreign n here) (λ p good is e. posted_stays sig to p good) (λ p l good well. (refl, record { block = well.block; waits = well.waits }))) (notifies sig (process_of n c.processes)) (grind (arith, own_some s n here)))

-- Running on

reported_kin : (p : ProcData) (l : LwpData) → GoodLwp l → SameOwnershipLwp l (reported p l)
reported_kin p l well = search (rules, choose)

pub run_on_same : {u : ℕ} {start c v : Rows} → Sim u start c v → (chosen : ProcData → Bool) (process : ProcData → ProcData) (lwp : ProcData → LwpData → LwpData)
    → ((p : ProcData) → GoodProc p → p.uid ≢ u → chosen p ≡ false)
    → ((p : ProcData) → GoodProc p → Stays p (process p))
    → ((p : ProcData) (l : LwpData) → GoodLwp l → StaysLwp l (lwp p l))
    → Sim u start (run_on chosen process lwp c) (run_on chosen process lwp v)
run_on_same s chosen process lwp foreign stays stays_lwp = each_same s (λ p. Some (if chosen p then process p else p)) (λ p l. if chosen p then option_map (lwp p) (reported p l) else Some l) (record {
  mine = λ p good is. kin_of p _ (kept p good);
  foreign = λ p good ne. rw (foreign p good ne) refl;
  lwp = λ p l good well is here. choose (chosen p) (option_map (lwp p) (reported p l)) (Some l) (SameOwnershipLwp l) (λ e. then_lwp p l (reported p l) (reported_kin p l well)) (λ e. (refl, well));
  foreign_lwp = λ p l good well ne here. rw (foreign p good ne) refl;
  live = λ p l good is live. let st = kept p good in inl (st.3 live);
})
  where
    kept : (p : ProcData) → GoodProc p → Stays p (if chosen p then process p else p)
    kept p good = stays_if p (process p) (chosen p) good (λ e. stays p good)

    then_lwp : (p : ProcData) (l : LwpData) (o : Option LwpData) → SameOwnershipLwp l o → SameOwnershipLwp l (option_map (lwp p) o)
    then_lwp p l o k = grind (arith, stays_lwp p, k)

pub resumed_same : {u : ℕ} {start c v : Rows} → Sim u start c v → (how : Resumption) (n : ℕ) → pid_owner n ≡ u → Sim u start (resumed how n c) (resumed how n v)
resumed_same s how n here = search (rules, run_on_same, is_numbered_foreign)

pub detached_same : {u : ℕ} {start c v : Rows} → Sim u start c v → (chosen : ProcData → Bool) (lost : ProcData → ℕ) → ((p : ProcData) → GoodProc p → p.uid ≢ u → chosen p ≡ false) → Sim u start (detached chosen lost c) (detached chosen lost v)
detached_same s chosen lost foreign = search (rules, run_on_same)
