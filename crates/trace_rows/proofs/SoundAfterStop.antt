-- A trace stop keeps rows sound.
use Rattle.trace_rows.proofs.CommonNames.{every_found, nat_tests, AllByRecursion, IsSomeAnd, shows, PL_FLAG_EXITED, LwpData, lwp_of, ProcData, State, Trace, is_run, is_run_state, is_zombie_state, named_by, process_of, Rows, each, lwp_count, tracer_in}
use Rattle.trace_rows.proofs.CommonNames.{tracer_of, tracers, stop, notified, names_own, IsLiveOf, FitProcess, FitLwp, IsSound, MayTell, Ready, FitOrReady, MayStop, ◌≡◌, ℕ, ◌≤◌, true, false, ◌==◌, if◌then◌else◌, Option, Some, None, IfSome}
use Rattle.trace_rows.proofs.CommonNames.{is_some, refl, sym, ap, subst, arith, eqb-true, eq-eqb, bit_and, rules, StopInfo, lwp_of-tid, process_of-pid}
use Rattle.trace_rows.proofs.SoundAfterEdit.{Leaves, row_at, lives_after, each_alone}
use Rattle.trace_rows.proofs.CommonLemmas.{both, All-imply, All-both, choose, Holds, Row, Beside, Same, Stay, Edit, nobody, sound_holds, lwp_is, none_gone, no_ring, stay, edit_holds, the_row, live_told, notified_sound}
pub use Rattle.trace_rows.proofs.Every.{find_passes}

pub run_quiet : (s : State) → is_run_state s ≡ true → (named_by s ≡ None) × (is_zombie_state s ≡ false)
run_quiet s is = grind (arith, nat_tests)

-- so an LWP of it may stop it
pub sound_ready : (rows : Rows) (pid tid : ℕ) (shown : StopInfo) (p : ProcData) → IsSound rows → process_of pid rows.processes ≡ Some p → Ready p
    → IsSomeAnd (lwp_of tid rows.lwps) (λ l. l.pid ≡ pid) → (shows shown.flags PL_FLAG_EXITED ≡ true → 2 ≤ lwp_count pid rows) → MayStop pid tid shown rows
sound_ready rows pid tid shown p s at ready own exits =
    let processes : AllByRecursion (FitOrReady pid) rows.processes =
    All-imply _ _ (λ q h. (λ other. h.0, λ same. subst Ready (sym (h.1 same)) ready)) rows.processes (All-both _ _ rows.processes s.processes (the_row pid rows.processes p s.stands.rising at)) in
    assumption

-- and so may an LWP of a traced process that runs, which is ready
pub may_stop : (rows : Rows) (pid tid : ℕ) (shown : StopInfo) (p : ProcData) → IsSound rows → process_of pid rows.processes ≡ Some p → is_run p ≡ true → is_some p.tracer ≡ true
    → IsSomeAnd (lwp_of tid rows.lwps) (λ l. l.pid ≡ pid) → (shows shown.flags PL_FLAG_EXITED ≡ true → 2 ≤ lwp_count pid rows) → MayStop pid tid shown rows
may_stop rows pid tid shown p s at run traced own exits = sound_ready rows pid tid shown p s at (let fit = every_found FitProcess (λ q. q.pid == pid) rows.processes p s.processes at in grind (arith, nat_tests, fit, run, traced)) own exits

module _ (rows : Rows) (pid tid : ℕ) (shown : StopInfo) (p : ProcData) (l : LwpData) (at : process_of pid rows.processes ≡ Some p) (there : lwp_of tid rows.lwps ≡ Some l) (may : MayStop pid tid shown rows) where
  s : Holds (FitOrReady pid) FitLwp rows
  s = record { stands = may.stands; processes = may.processes; lwps = may.lwps }

  own : l.pid ≡ pid
  own = rw there at may.own

  abbrev stopped : ProcData → ProcData
  stopped q = record q { state = Trace tid shown.sig false }

  abbrev showing : LwpData → LwpData
  showing k = record k { flags = shown.flags; child = shown.child; code = shown.code }

  abbrev to : ProcData → Option ProcData
  to q = Some (if q.pid == pid then stopped q else q)

  abbrev to_lwp : LwpData → LwpData
  to_lwp k = if k.tid == tid then showing k else k

  abbrev made : Rows
  made = each to (λ q k. Some (to_lwp k)) rows

  -- the stopping LWP is the process's own
  its_own : (q : ProcData) (k : LwpData) → Beside rows (FitOrReady pid) FitLwp q k → (k.tid == tid) ≡ true → q.pid ≡ pid
  its_own q k b is = grind (arith, nat_tests, process_of-pid k.pid q rows.processes b.at, lwp_is b there, own, is)

  named : (q : ProcData) → (q.pid == pid) ≡ true → names_own rows q tid ≡ true
  named q is = search (rules, find_passes, both, eq-eqb, lwp_of-tid, eqb-true)

  same : Same to (λ q k. Some (to_lwp k))
  same = grind (arith, nat_tests)

  stays : (q : ProcData) → Row rows (FitOrReady pid) q → Stay rows made q
  stays q row = stay rows to (λ q k. Some (to_lwp k)) same q row.at (λ k. (to_lwp k, refl))

  the_edit : Edit rows nobody to (λ q k. Some (to_lwp k)) (FitOrReady pid) FitLwp FitProcess FitLwp
  the_edit = record {
    same = same;
    ring = no_ring to rows.processes s.stands.rising same.process (λ q. choose (q.pid == pid) (stopped q) q (Leaves q) (λ e t is. is) (λ e t is. is));
    gone = none_gone rows (FitOrReady pid) (λ q k. Some (to_lwp k));
    process = λ q row. grind (arith, nat_tests, row.link, row.fact, stays q row, named q);
    lwp = λ q k b on. record {
      exited = λ shown_is. let same : (k.tid == tid) ≡ true → lwp_count q.pid rows ≡ lwp_count pid rows = λ e. ap (λ n. lwp_count n rows) (its_own q k b e) in grind (arith, same, shown_is, may.exits, b.stood.exited, (stays q b.row).count);
      waits = grind (arith, b.stood.waits);
      fits = grind (arith, nat_tests, its_own q k b, b.fact, b.row.fact, bit_and);
    };
  }

  pub stopped_sound : IsSound (stop pid tid shown rows)
  stopped_sound = subst (λ r. IsSound (notified (tracers (tracer_of rows.processes pid)) r)) (each_alone rows s.stands.in_owners_block to (λ k. Some (to_lwp k))) (notified_sound made (tracers (tracer_of rows.processes pid)) (sound_holds made (edit_holds rows nobody to (λ q k. Some (to_lwp k)) (FitOrReady pid) FitLwp FitProcess FitLwp s the_edit))
      (subst (λ o. AllByRecursion (MayTell made) (tracers (tracer_in o))) (sym at) (tell p.tracer (row_at rows s pid p at).link.tracer)))
    where
      tell : (o : Option ℕ) → IfSome o (IsLiveOf rows p.uid) → AllByRecursion (MayTell made) (tracers o)
      tell o live = grind (arith, live, live_told made p.uid, lives_after rows nobody to (λ q k. Some (to_lwp k)) (FitOrReady pid) FitLwp FitProcess FitLwp s the_edit p.uid)
