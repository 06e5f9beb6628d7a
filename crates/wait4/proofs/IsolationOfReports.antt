-- What is collected, among one user's rows.
use Rattle.wait4.proofs.CommonNames.{arith, ◌≡◌, ◌≢◌, ℕ, ℤ, find, true, ◌==◌, ◌&&◌, if◌then◌else◌, Option, Some, IfSome, refl, ap, ◌∙◌, eqb-true, subst, eq-eqb, inl, rules, nat_tests, IsUser}
use Rattle.wait4.proofs.CommonNames.{ProcData, State, Rows, pid_owner, Options, answer, is_child, fits, reportable, collected_in, collected, stays, told, collect_one, candidates, reported, collect}
use Rattle.wait4.proofs.CommonNames.{without_report, rows_after, GoodProc, All-where, Sim, SameOwnership, not_own, either, named, rows_query, each_same, If_more, user_not_one, notified_same, and_left}
use Rattle.trace_rows.proofs.FilteredLists.{find_some}

pub child_own : (u caller : ℕ) → IsUser u → pid_owner caller ≡ u → (p : ProcData) → GoodProc p → is_child caller p ≡ true → p.uid ≡ u
child_own u caller user mine p good is = search (rules, eqb-true, user_not_one, either, not_own)

fits_own : (u caller : ℕ) (which : ℤ) → IsUser u → pid_owner caller ≡ u → (p : ProcData) → GoodProc p → (is_child caller p && fits which p) ≡ true → p.uid ≡ u
fits_own u caller which user mine p good is = child_own u caller user mine p good (and_left (is_child caller p) (fits which p) is)

pub candidates_same : {u : ℕ} {start c v : Rows} → Sim u start c v → (caller : ℕ) (which : ℤ) → pid_owner caller ≡ u → candidates caller which c ≡ candidates caller which v
candidates_same {u} s caller which mine = rows_query s (λ p. is_child caller p && fits which p) (λ p good is. fits_own u caller which s.kept.closed.user mine p good is)

pub reported_same : {u : ℕ} {start c v : Rows} → Sim u start c v → (caller : ℕ) (which : ℤ) (options : Options) → pid_owner caller ≡ u → reported caller which options c ≡ reported caller which options v
reported_same s caller which options mine = ap (find (reportable options caller)) (candidates_same s caller which mine)

pub reported_some : {u : ℕ} {start c v : Rows} → Sim u start c v → (caller : ℕ) (which : ℤ) (options : Options) → pid_owner caller ≡ u → IfSome (reported caller which options c) (λ p. GoodProc p × (p.uid ≡ u))
reported_some {u} {start} {c} s caller which options mine = If_more _ (λ p. GoodProc p × (p.uid ≡ u)) (λ p g. g.0) (reported caller which options c) (find_some (reportable options caller) (λ p. GoodProc p × (p.uid ≡ u)) (candidates caller which c)
    (All-where (λ p. is_child caller p && fits which p) GoodProc (λ p. GoodProc p × (p.uid ≡ u)) (λ p good is. (good, fits_own u caller which s.kept.closed.user mine p good is)) c.processes s.kept.closed.processes))

pub collect_same : {u : ℕ} {start c v : Rows} → Sim u start c v → (caller : ℕ) (which : ℤ) (options : Options) → pid_owner caller ≡ u → collect caller which options c ≡ collect caller which options v
collect_same {u} {start} {c} {v} s caller which options mine = ap (λ ps. answer ps (find (reportable options caller) ps)) (candidates_same s caller which mine)

stays_parent : (caller : ℕ) (p : ProcData) → stays caller p ≡ true → p.parent ≢ 1
stays_parent caller p is one = search (rules, eq-eqb)

collected_kin : (caller : ℕ) (p : ProcData) → GoodProc p → (st : State) → p.state ≡ st → SameOwnership p (collected_in caller p st)
collected_kin caller p good st e = grind (arith, nat_tests, good, e, stays_parent caller p)

pub collect_one_same : {u : ℕ} {start c v : Rows} → Sim u start c v → (caller : ℕ) (p : ProcData) → GoodProc p → p.uid ≡ u → Sim u start (collect_one caller p c) (collect_one caller p v)
collect_one_same {u} s caller p good mine = notified_same (each_same s (λ q. if q.pid == p.pid then collected caller q else Some q) (λ q l. Some l) (record {
  mine = λ q g is. grind (arith, collected_kin caller q g q.state refl, g);
  foreign = λ q g ne. rw (not_own p.pid q.pid (λ e. ne (named (good.block ∙ mine) q g e))) refl;
  lwp = λ q l g well is here. (refl, well);
  foreign_lwp = λ q l g well ne here. refl;
  live = λ q l g is live. inl (grind (arith, live));
})) (told caller p) (grind (arith, good.parent, mine))

pub rows_after_same : {u : ℕ} {start c v : Rows} → Sim u start c v → (caller : ℕ) (which : ℤ) (options : Options) → pid_owner caller ≡ u → Sim u start (rows_after caller which options c) (rows_after caller which options v)
rows_after_same {u} {start} {c} {v} s caller which options mine = subst (λ o. Sim u start (rows_after caller which options c) (without_report caller o v)) (reported_same s caller which options mine) (at_row (reported caller which options c) (reported_some s caller which options mine))
  where
    at_row : (o : Option ProcData) → IfSome o (λ p. GoodProc p × (p.uid ≡ u)) → Sim u start (without_report caller o c) (without_report caller o v)
    at_row o g = grind (arith, g, s, collect_one_same s caller)
