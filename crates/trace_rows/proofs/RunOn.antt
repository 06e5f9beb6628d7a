-- A stopped process runs on: its reporting LWP, and its LWPs.
use Rattle.trace_rows.proofs.CommonNames.{◌≡◌, ℕ, Bool, true, false, List, [], ◌∷◌, map, refl, sym, ap, ◌∙◌, arith, cond, nat_eq, Option, Some, None, rules, filter_map, option_map, nat_tests, shows, PL_FLAG_EXITED, LwpData, LacksLwp}
use Rattle.trace_rows.proofs.CommonNames.{Differ, lwp_of, with_lwp, without_lwp, ProcData, process_of, reporting, Rows, by_owner, is_numbered, own_lwp, map_lwps, TableInvariant, set_process, run_on, reported, resumed, running, steps, Resumption}
use Rattle.trace_rows.proofs.CommonNames.{MidStepInvariant, IsStopped, reporter, unreported, report_dropped, process_of-pid, lwp_of-tid}
use Rattle.proc_table.proofs.Rows.{same_number}
use Rattle.proc_table.proofs.LwpWalk.{unput}
use Rattle.proc_table.proofs.Changes.{changed, changed-at, filter_map-map}
use Rattle.trace_rows.proofs.StoppedByOwnLwp.{own_reporter}

-- the LWPs without what one of them has reported, and without it if it has exited
abbrev pub dropped : Bool → LwpData → List LwpData → List LwpData
dropped gone l ls = cond gone (without_lwp l.tid ls) (with_lwp (unreported l) ls)

removed-none : (n : ℕ) (ls : List LwpData) → LacksLwp n ls → without_lwp n ls ≡ ls
removed-none n [] a = refl
removed-none n (l ∷ ls) a = grind (arith, nat_tests, a.0, removed-none n ls a.1)

module _ (pid tid : ℕ) (p : ProcData) (g : LwpData → LwpData) (h : LwpData → Option LwpData)
    (reports : reporting p ≡ Some tid)
    (mine : (x : LwpData) → nat_eq x.pid pid ≡ true → h x ≡ option_map g (reported p x))
    (others : (x : LwpData) → nat_eq x.pid pid ≡ false → h x ≡ Some x) where
  silent : (x : LwpData) → nat_eq x.tid tid ≡ false → h x ≡ Some (own_lwp pid g x)
  silent x e = grind (arith, nat_tests)

  quiet : (ls : List LwpData) → LacksLwp tid ls → filter_map h ls ≡ map (own_lwp pid g) ls
  quiet [] a = refl
  quiet (x ∷ ls) a = grind (arith, nat_tests, a.0, silent x, quiet ls a.1)

  pub reported-lwps : (l : LwpData) (b : Bool) → l.tid ≡ tid → l.pid ≡ pid → shows l.flags PL_FLAG_EXITED ≡ b → (ls : List LwpData) → Differ ls → lwp_of tid ls ≡ Some l
      → filter_map h ls ≡ map (own_lwp pid g) (dropped b l ls)
  reported-lwps l b its own e [] d found = absurd (cc)
  reported-lwps l b its own e (x ∷ ls) d found = grind (arith, nat_tests, its, own, e, found, d.0, mine l, silent x, quiet ls, removed-none tid ls, unput (unreported l) ls, reported-lwps l b its own e ls d.1)

module _ (pid : ℕ) (f : ProcData → ProcData) (g : ProcData → LwpData → LwpData) where
  abbrev runs : ProcData → LwpData → Option LwpData
  runs q x = cond (nat_eq q.pid pid) (option_map (g q) (reported q x)) (Some x)

  its : (p : ProcData) (ps : List ProcData) → process_of pid ps ≡ Some p → (x : LwpData) → nat_eq x.pid pid ≡ true → by_owner runs x (process_of x.pid ps) ≡ option_map (g p) (reported p x)
  its p ps at x e = search (rules, nat_tests, process_of-pid, same_number)

  not_its : (ps : List ProcData) (x : LwpData) → nat_eq x.pid pid ≡ false → by_owner runs x (process_of x.pid ps) ≡ Some x
  not_its ps x e = search (rules, process_of-pid)

  pub run_on-at : (rows : Rows) (s : IsStopped pid rows) → TableInvariant rows → (f s.p).pid ≡ pid
      → run_on (is_numbered pid) f g rows ≡ map_lwps pid (g s.p) (report_dropped (Some s.l) (set_process (f s.p) rows))
  run_on-at rows s k named =
      let ps = rows.processes in
      let tid = lwp_of-tid s.tid s.l rows.lwps s.named in
      rw (
        filter_map-map (λ q. Some (changed pid f q)) (changed pid f) (λ q. refl) ps ∙ changed-at pid f s.p ps k.rising s.at named,
        reported-lwps pid s.tid s.p (g s.p) (λ x. by_owner runs x (process_of x.pid ps)) s.reports (its s.p ps s.at) (not_its ps) s.l (shows s.l.flags PL_FLAG_EXITED) tid s.own refl rows.lwps k.differ s.named,
      ) (grind arith)

  -- and of a process in no trace stop
  pub run_on-calm : (rows : Rows) (p : ProcData) → TableInvariant rows → process_of pid rows.processes ≡ Some p → reporting p ≡ None → (f p).pid ≡ pid
      → run_on (is_numbered pid) f g rows ≡ map_lwps pid (g p) (set_process (f p) rows)
  run_on-calm rows p k at calm named = rw (
    filter_map-map (λ q. Some (changed pid f q)) (changed pid f) (λ q. refl) rows.processes ∙ changed-at pid f p rows.processes k.rising at named,
    filter_map-map (λ x. by_owner runs x (process_of x.pid rows.processes)) (own_lwp pid (g p)) (λ x. grind (arith, nat_tests, its p rows.processes at x, not_its rows.processes x, calm)) rows.lwps,
  ) refl

  pub run_on-is : (rows : Rows) (p : ProcData) → MidStepInvariant rows → TableInvariant rows → process_of pid rows.processes ≡ Some p → (f p).pid ≡ pid → (o : Option ℕ) → reporting p ≡ o
      → run_on (is_numbered pid) f g rows ≡ map_lwps pid (g p) (report_dropped (reporter o rows.lwps) (set_process (f p) rows))
  run_on-is rows p s k at named None e = run_on-calm rows p k at e named
  run_on-is rows p s k at named (Some tid) e =
      let l = own_reporter pid tid rows p s at e in
      run_on-at rows (record { p = p; at = at; tid = tid; reports = e; l = l.0; named = l.1; own = l.2 }) k named
      ∙ ap (λ x. map_lwps pid (g p) (report_dropped x (set_process (f p) rows))) (sym l.1)

-- a resumed process
pub resumed-is : (how : Resumption) (pid : ℕ) (rows : Rows) (p : ProcData) → MidStepInvariant rows → TableInvariant rows → process_of pid rows.processes ≡ Some p → (o : Option ℕ) → reporting p ≡ o
    → resumed how pid rows ≡ map_lwps pid (steps how.stepping) (report_dropped (reporter o rows.lwps) (set_process (running how.adds p) rows))
resumed-is how pid rows p s k at o e = run_on-is pid (running how.adds) (λ q l. steps how.stepping l) rows p s k at (process_of-pid pid p rows.processes at) o e
