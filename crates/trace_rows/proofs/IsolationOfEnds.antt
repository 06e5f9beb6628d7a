-- The end of a process; posting any signal, trace stops, and what resumes a process.
use Rattle.std.proofs.Common.{arith, ◌≡◌, ◌≢◌, ℕ, zero, suc, List, filter_map, Bool, true, false, ◌==◌, ◌&&◌, ◌||◌, if◌then◌else◌, Option, Some, None, is_some, IfSome, refl, sym, ap, ◌∙◌, true≢false, subst, rules}
use Rattle.std.proofs.Math.Path.{fun_ext}
use Rattle.trace_rows.proofs.CommonNames.{nat_tests, AllByRecursion, list_any, IsUser, SIGKILL, SIGTRAP, bit, ProcData, Trace, LwpData, is_live, traces, reporting, Rows, each}
use Rattle.trace_rows.proofs.CommonNames.{tracer_in, is_numbered, change_process, change_lwp, notified, post, tracers, stop, ends_process, resume, detach}
use Rattle.pid_blocks.specs.Blocks.{pid_owner, tid_owner}
use Rattle.step_types.specs.declared.Settings.{Settings}
use Rattle.trace_rows.specs.{Detach.signal_alone, declared.Resumption.Resumption, declared.StopInfo.StopInfo}
use Rattle.trace_rows.specs.End.{tracer_of, meets, is_doomed, dooms, process_after, released, lwp_after, notifies_of, end_each, end_of, end}
use Rattle.trace_rows.proofs.Every.{not_same, by_bool, choose, choose_both, none_passes, All-edit, All-filter}
use Rattle.trace_rows.specs.Closed.{Mine, GoodProc, GoodLwp}
use Rattle.trace_rows.proofs.FilteredLists.{any_only, filter_map_only}
use Rattle.trace_rows.proofs.IsolationRelation.{Sim, SameOwnership, SameOwnershipLwp, Keeps, own, is_own, either, process_same, at_number, each_same}
use Rattle.trace_rows.proofs.IsolationOfEdits.{process_same_after, lwp_same_after, branch_rows}
use Rattle.trace_rows.proofs.IsolationOfSignals.{owner_of_1, notified_same, posted_same, resumed_same, detached_same, is_numbered_foreign}

-- Chains of tracers

pub tracer_facts : (ps : List ProcData) → AllByRecursion GoodProc ps → (n : ℕ) → IfSome (tracer_of ps n) (λ t. pid_owner t ≡ pid_owner n)
tracer_facts ps all n = at_number ps all n (λ o. IfSome (tracer_in o) (λ t. pid_owner t ≡ pid_owner n)) tt (λ p is good here. grind (arith, good.tracer, good.block, here))

meets_own_same : {u : ℕ} {start c v : Rows} → Sim u start c v → (k p n : ℕ) → pid_owner n ≡ u → meets k c.processes p n ≡ meets k v.processes p n
unfolding meets
meets_own_same s zero p n mine = refl
meets_own_same {u} {start} {c} {v} s (suc k) p n mine = grind (arith, nat_tests, mine, process_same s n mine, tracer_facts c.processes s.kept.closed.processes n, meets_own_same s k p)

meets_foreign : (ps : List ProcData) → AllByRecursion GoodProc ps → (k p n : ℕ) → pid_owner n ≢ pid_owner p → meets k ps p n ≡ false
unfolding meets
meets_foreign ps all zero p n ne = refl
meets_foreign ps all (suc k) p n ne = grind (arith, nat_tests, ne, tracer_facts ps all n, meets_foreign ps all k p)

pub meets_same : {u : ℕ} {start c v : Rows} → Sim u start c v → (k p n : ℕ) → pid_owner p ≡ u → meets k c.processes p n ≡ meets k v.processes p n
meets_same {u} {start} {c} {v} s k p n here = either (pid_owner n) u (meets_own_same s k p n) (λ ne.
    meets_foreign c.processes s.kept.closed.processes k p n (λ e. ne (e ∙ here)) ∙ sym (meets_foreign v.processes (subst (AllByRecursion GoodProc) s.processes (All-filter (own u) GoodProc c.processes s.kept.closed.processes)) k p n (λ e. ne (e ∙ here))))

-- The rows that end: no row of another user, and no number of one

module _ {u : ℕ} (over : ℕ → Bool) (over_foreign : (n : ℕ) → pid_owner n ≢ u → over n ≡ false) where
  pub released_foreign : (p : ProcData) (l : LwpData) → GoodLwp l → pid_owner l.pid ≢ u → released over p l ≡ l
  released_foreign p l well ne = grind (arith, well.waits, ne, over_foreign)

pub released_kin : (over : ℕ → Bool) (p : ProcData) (l : LwpData) → GoodLwp l → SameOwnershipLwp l (Some (released over p l))
released_kin over p l well = grind (arith, well)

module _ {u : ℕ} (ends : ProcData → Bool) (over : ℕ → Bool) (ends_foreign : (p : ProcData) → GoodProc p → p.uid ≢ u → ends p ≡ false) (over_foreign : (n : ℕ) → pid_owner n ≢ u → over n ≡ false) (n w : ℕ) where
  after_kin : (p : ProcData) → GoodProc p → SameOwnership p (process_after ends over n w p)
  after_kin p good = grind (arith, nat_tests, good)

  after_foreign : IsUser u → (p : ProcData) → GoodProc p → p.uid ≢ u → process_after ends over n w p ≡ Some p
  after_foreign user p good ne =
      let kept : over p.parent ≡ false = search (rules, either, owner_of_1) in
      grind (arith, nat_tests, good, ne, ends_foreign p good ne, over_foreign, kept)

  end_keeps : IsUser u → Keeps u (process_after ends over n w) (lwp_after ends over)
  end_keeps user = search (rules, after_kin, after_foreign, choose, released_kin, released_foreign, choose_both)

  notifies_foreign : (p : ProcData) → GoodProc p → p.uid ≢ u → notifies_of ends over n w p ≡ None
  notifies_foreign p good ne = grind (arith, ends_foreign p good ne, over_foreign, good.tracer, ne)

  notifies_mine : (p : ProcData) → GoodProc p → IfSome (notifies_of ends over n w p) (Mine u)
  notifies_mine p good = either p.uid u (λ mine. grind (arith, after_kin p good, mine)) (λ ne. grind (arith, notifies_foreign p good ne))

  end_each_same : {start c v : Rows} → Sim u start c v → Sim u start (end_each ends over n w c) (end_each ends over n w v)
  end_each_same {start} {c} {v} s = subst (λ ns. Sim u start (end_each ends over n w c) (notified ns (each (process_after ends over n w) (lwp_after ends over) v)))
      (sym (filter_map_only (notifies_of ends over n w) (own u) GoodProc (λ p good is. notifies_foreign p good (not_same p.uid u is)) c.processes s.kept.closed.processes) ∙ ap (filter_map (notifies_of ends over n w)) s.processes)
      (notified_same (each_same s (process_after ends over n w) (lwp_after ends over) (end_keeps s.kept.closed.user)) (filter_map (notifies_of ends over n w) c.processes)
      (All-edit (notifies_of ends over n w) GoodProc (Mine u) notifies_mine c.processes s.kept.closed.processes))

-- the tests are the same on all rows and on a user's
module _ {u : ℕ} (ps : List ProcData) (all : AllByRecursion GoodProc ps) (settings : Settings) (n : ℕ) (here : pid_owner n ≡ u) where
  doomed_foreign : (p : ProcData) → GoodProc p → p.uid ≢ u → is_doomed settings ps n p ≡ false
  doomed_foreign p good ne = grind (arith, nat_tests, good.block, here, ne, meets_foreign ps all 250 n p.pid)

  doomed_own : (m : ℕ) (p : ProcData) → GoodProc p → ((p.pid == m) && is_doomed settings ps n p) ≡ true → p.uid ≡ u
  doomed_own m p good is = either p.uid u (λ e. e) (λ ne. absurd (grind (arith, is, doomed_foreign p good ne)))

  dooms_foreign : (m : ℕ) → pid_owner m ≢ u → dooms settings ps n m ≡ false
  dooms_foreign m ne = none_passes _ GoodProc (λ q good. by_bool _ (λ is. grind (arith, nat_tests, is, ne, good.block, doomed_own m q good))) ps all

end_of_same : {u : ℕ} {start c v : Rows} → Sim u start c v → (settings : Settings) (n w : ℕ) → pid_owner n ≡ u → Sim u start (end_of settings n w c) (end_of settings n w v)
end_of_same {u} {start} {c} {v} s settings n w here =
    subst (λ d. Sim u start (end_of settings n w c) (end_each d (dooms settings v.processes n) n w v)) doomed
    (subst (λ o. Sim u start (end_of settings n w c) (end_each (is_doomed settings c.processes n) o n w v)) over
    (end_each_same (is_doomed settings c.processes n) (dooms settings c.processes n) (doomed_foreign c.processes all settings n here) (dooms_foreign c.processes all settings n here) n w s))
  where
    all : AllByRecursion GoodProc c.processes
    all = s.kept.closed.processes

    doomed : is_doomed settings c.processes n ≡ is_doomed settings v.processes n
    doomed = fun_ext (λ p. ap (λ b. (p.pid == n) || (settings.kill_on_debugger_exit && is_live p && b)) (meets_same s 250 n p.pid here))

    over : dooms settings c.processes n ≡ dooms settings v.processes n
    over = fun_ext (λ m.
        sym (any_only (λ q. (q.pid == m) && is_doomed settings c.processes n q) (own u) GoodProc (λ q good is. is_own u q.uid (doomed_own c.processes all settings n here m q good is)) c.processes all)
        ∙ ap (list_any (λ q. (q.pid == m) && is_doomed settings c.processes n q)) s.processes
        ∙ ap (λ d. list_any (λ q. (q.pid == m) && d q) v.processes) doomed)

pub end_same : {u : ℕ} {start c v : Rows} → Sim u start c v → (settings : Settings) (n w : ℕ) → pid_owner n ≡ u → Sim u start (end settings n w c) (end settings n w v)
end_same {u} {start} {c} {v} s settings n w here = end_of_same (choose_both (Sim u start) settings.kill_on_debugger_exit _ _ _ _ (λ kills. s) (λ lets.
    detached_same s (λ q. is_live q && traces n q) (λ q. if is_some (reporting q) then bit SIGTRAP else 0) foreign)) settings n w here
  where
    foreign : (p : ProcData) → GoodProc p → p.uid ≢ u → (is_live p && traces n p) ≡ false
    foreign p good ne = grind (arith, nat_tests, good.tracer, ne, here)

-- Posting any signal, trace stops, and what resumes a process

pub post_same : {u : ℕ} {start c v : Rows} → Sim u start c v → (settings : Settings) (sig : ℕ) (to : Option ℕ) (n : ℕ) → pid_owner n ≡ u → Sim u start (post settings sig to n c) (post settings sig to n v)
post_same s settings sig to n here = branch_rows (sig == SIGKILL) _ refl (λ b. end_same s settings n SIGKILL here) (λ b. posted_same s sig to n here)

pub stop_same : {u : ℕ} {start c v : Rows} → Sim u start c v → (n tid : ℕ) (shown : StopInfo) → pid_owner n ≡ u → tid_owner tid ≡ u → Sim u start (stop n tid shown c) (stop n tid shown v)
stop_same {u} {start} {c} {v} s n tid shown here own_tid = subst (λ o. Sim u start (stop n tid shown c) (notified (tracers (tracer_in o)) (stopped v))) (process_same s n here)
    (notified_same (process_same_after (lwp_same_after s tid own_tid (λ l. record l { flags = shown.flags; child = shown.child; code = shown.code }) (λ l well is. (refl, record { block = well.block; waits = well.waits })))
    n here (λ p. record p { state = Trace tid shown.sig false }) (λ p good is e. (refl, refl, record { user = good.user; block = good.block; tracer = good.tracer; parent = good.parent; reporting = own_tid ∙ sym is; collector = λ dead. absurd (true≢false dead) }, λ live. refl)))
    (tracers (tracer_of c.processes n)) (grind (arith, here, tracer_facts c.processes s.kept.closed.processes n)))
  where
    stopped : Rows → Rows
    stopped rows = change_process n (λ p. record p { state = Trace tid shown.sig false }) (change_lwp tid (λ l. record l { flags = shown.flags; child = shown.child; code = shown.code }) rows)

pub resume_same : {u : ℕ} {start c v : Rows} → Sim u start c v → (settings : Settings) (how : Resumption) (n : ℕ) → pid_owner n ≡ u → Sim u start (resume settings how n c) (resume settings how n v)
resume_same s settings how n here = branch_rows _ _ (ap (ends_process how.pass) (process_same s n here)) (λ b. end_same (resumed_same s how n here) settings n how.pass here) (λ b. resumed_same s how n here)

pub detach_same : {u : ℕ} {start c v : Rows} → Sim u start c v → (settings : Settings) (n sig : ℕ) → pid_owner n ≡ u → Sim u start (detach settings n sig c) (detach settings n sig v)
detach_same s settings n sig here = branch_rows _ _ (ap (ends_process sig) (process_same s n here)) (λ b. resume_same s settings (signal_alone sig) n here) (λ b. detached_same s (is_numbered n) (λ p. 0) (is_numbered_foreign n here))
