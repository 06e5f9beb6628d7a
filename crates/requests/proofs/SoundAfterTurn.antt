-- The turn of an LWP keeps a host sound, with the exec and the fork that it may make.
use Rattle.requests.proofs.CommonNames.{nat_tests, ◌≡◌, ◌≢◌, inl, ℕ, ◌≤◌, Bool, true, false, ◌==◌, if◌then◌else◌, List, [], ◌∷◌, find, Option, Some, None, IfSome, refl, sym, ap, ◌∙◌, true≢false}
use Rattle.requests.proofs.CommonNames.{subst, arith, eqb-true, eq-eqb, rules, count_by, PL_FLAG_EXITED, shows, after_exec, LwpData, User, lwp_of, ProcData, is_live, process_of, Rows, owner, by_owner}
use Rattle.requests.proofs.CommonNames.{each, is_numbered, lwp_count, settled_process, settled_lwp, settle, released, FitButPending, FitLwpButPending, IsSoundButPending, IsLiveChild, FitProcess}
use Rattle.requests.proofs.CommonNames.{waited_for, FitLwp, count-cons, choose, choose_both, If_more, some_is, find_edit, Holds, Row, Same, Leaves, KeptRow, KeptLwp, nobody, holds_sound, like_self}
use Rattle.requests.proofs.CommonNames.{kept_all, none_gone, no_ring, same_lwp, stay, edit_holds, changed_own, redisposed_lwp, settle_sound, exec_rows, ◌++◌, is_some, eqb, list_any, Call, SIGCHLD}
use Rattle.requests.proofs.CommonNames.{born, Trace, change_process, change_lwp, add_process, add_lwp, posted_process, posted_lwp, notified, tracer_of, tracers, stop, StopInfo, MayStop, IsSound}
use Rattle.requests.proofs.CommonNames.{and_left, by_bool, zero_apart, find_passes, sound_ready, stopped_sound, Numbers, forked, child_stop, with_child, Due, find_some, ◌*◌, ◌||◌, not, Mode, InCall}
use Rattle.requests.proofs.CommonNames.{VforkWait, is_run, seen_lwp, Settings, status_fits, mode_fits, IsSignal, Act, Outcome, room_for_lwp, room_for_process, in_mode, exit_stop, forks, due_at_birth}
use Rattle.requests.proofs.CommonNames.{makes_lwp, leaves, waits, due_stop, without_signal, acts, signal_or_act, due_or_more, turn_of, turn, Machine, sound, step, act_fits, Step, Reply}
use Rattle.trace_rows.proofs.Settling.{redisposed as redisposed_fits}
use Rattle.trace_rows.proofs.SoundAfterEnds.{released_same, released_flags, released_fits, released_waits}
use Rattle.requests.proofs.SoundAfterActing.{Acting, owner_is, its_live, lwp_fit, seen_acting, its_fit, stops_or_sound, entry_may, exit_may, goes_on, same_may, exit_word}
use Rattle.requests.proofs.SoundAfterMask.{changed_process, changed_lwp}
use Rattle.requests.proofs.SoundAfterSignal.{Alike, alike_of, end_sound, taken_alike, next_is_signal, takes_sound, raise_sound, block_sound, compute_sound}
use Rattle.requests.proofs.SoundAfterLwpChange.{its_number, quiet_lwp, quiet_row, find_more, its_user, in_mode_acting, due_sound, exits_lwp_sound, joined_acting}
use Rattle.std.specs.Option.{IsSomeAnd}
use Rattle.trace_rows.proofs.Children.{child_test, child_passes}
use Rattle.trace_rows.proofs.Placed.{process_of-other, process_of-placed}
use Rattle.trace_rows.proofs.SoundAfterSpawn.{born_sound}
use Rattle.requests.proofs.RoomForProcess.{ProcessRoom, LwpRoom, lwp_room, process_room}
use Rattle.requests.proofs.SoundAfterCall.{live_row}
use Rattle.requests.proofs.SoundWithoutEnded.{rows_sound, after_sound}

-- what is found is counted
find_counted : {X : Type 0} (q t : X → Bool) (xs : List X) (x : X) → find q xs ≡ Some x → t x ≡ true → 1 ≤ count_by t xs
find_counted q t [] x is pass = absurd (grind (arith, is))
find_counted {X} q t (y ∷ xs) x is pass = search (rules, find_counted q t xs x, count-cons, some_is)

module _ (rows : Rows) (p : ProcData) (l : LwpData) (a : Acting rows p l) where
  abbrev waits_for_it : ℕ → Bool
  waits_for_it n = n == p.pid

  abbrev exec_lwp : ProcData → LwpData → Option LwpData
  exec_lwp q k = if q.pid == p.pid then (if k.tid == l.tid then Some (record k { mode = User }) else None) else Some (released waits_for_it q k)

  abbrev redisposed : ProcData → ProcData
  redisposed q = record q { dispositions = after_exec q.dispositions }

  abbrev to : ProcData → Option ProcData
  to q = Some (if q.pid == p.pid then redisposed q else q)

  abbrev made : Rows
  made = each to exec_lwp rows

  by_lwp : (q : ProcData) (k : LwpData) (R : Option LwpData → Type 0) → R None → R (Some (record k { mode = User })) → R (if k.tid == l.tid then Some (record k { mode = User }) else None)
  by_lwp q k R none own = choose (k.tid == l.tid) (Some (record k { mode = User })) None R (λ e. own) (λ e. none)

  same : Same to exec_lwp
  same = search (rules, choose, by_lwp, released_same)

  found_lwp : lwp_of l.tid made.lwps ≡ Some (record l { mode = User })
  found_lwp = find_edit (λ k. k.tid == l.tid) (λ k. by_owner exec_lwp k (owner rows k)) (λ x. If_more (λ k. (k.tid ≡ x.tid) × (k.pid ≡ x.pid)) (λ k. (k.tid == l.tid) ≡ (x.tid == l.tid)) (λ k n. ap (λ m. m == l.tid) n.0) (by_owner exec_lwp x (owner rows x)) (same_lwp rows to exec_lwp same x)) rows.lwps l (record l { mode = User }) a.there
      (ap (by_owner exec_lwp l) (owner_is rows p l a) ∙ rw (eq-eqb p.pid p.pid refl, eq-eqb l.tid l.tid refl) refl)

  -- the rows, except for pending signals
  pub exec_but_pending : IsSoundButPending p.pid made
  exec_but_pending = record { stands = held.stands; processes = held.processes; lwps = held.lwps }
    where
      other : (q : ProcData) (R : Type 0) → (q.pid == p.pid) ≡ false → q.pid ≡ p.pid → R
      other q R is same_pid = absurd (true≢false (sym (eq-eqb q.pid p.pid same_pid) ∙ is))

      some : 1 ≤ lwp_count p.pid made
      some = find_counted (λ k. k.tid == l.tid) (λ k. k.pid == p.pid) made.lwps (record l { mode = User }) found_lwp (eq-eqb l.pid p.pid a.own)

      alive : (q : ProcData) → Row rows FitProcess q → (q.pid == p.pid) ≡ true → is_live q ≡ true
      alive q row e = subst (λ (r : ProcData). is_live r ≡ true) (its_number rows p l a q row e) (its_live rows p l a)

      held : Holds (FitButPending p.pid) (FitLwpButPending p.pid) made
      held = edit_holds rows nobody to exec_lwp FitProcess FitLwp (FitButPending p.pid) (FitLwpButPending p.pid) (holds_sound rows a.sound) (record {
        same = same;
        ring = no_ring to rows.processes a.sound.stands.rising same.process (λ q. choose (q.pid == p.pid) (redisposed q) q (Leaves q) (λ e t is. is) (λ e t is. is));
        gone = none_gone rows FitProcess exec_lwp;
        process = λ q row. choose (q.pid == p.pid) (redisposed q) q (KeptRow rows made nobody (FitButPending p.pid) q)
            (λ e. quiet_row rows p l a q (redisposed q) row e (record { live = refl; tracer = inl refl; parent = refl }) refl some (λ ne. absurd (ne (eqb-true q.pid p.pid e)), λ its. (redisposed_fits (after_exec q.dispositions) q row.fact (alive q row e), alive q row e)))
            (λ e. kept_all row (like_self q) (inl refl) (stay rows to exec_lwp same q row.at (λ k. (released waits_for_it q k, rw e refl))) (λ ne. row.fact, other q _ e));
        lwp = λ q k b on. choose_both (λ r o. IfSome o (KeptLwp rows made nobody (FitLwpButPending p.pid) q r)) (q.pid == p.pid) (redisposed q) q (if k.tid == l.tid then Some (record k { mode = User }) else None) (Some (released waits_for_it q k))
            (grind (arith, nat_tests, by_lwp, nobody, quiet_lwp, redisposed_lwp))
            (λ e. record {
              exited = λ shown. let two = b.stood.exited (subst (λ f. shows f PL_FLAG_EXITED ≡ true) (released_flags waits_for_it q k) shown) in let more = (stay rows to exec_lwp same q b.row.at (λ k. (released waits_for_it q k, rw e refl))).count in omega (arith, two, more);
              waits = If_more _ (λ c. IsLiveChild rows q c × (nobody c ≡ false)) (λ c h. (h.0, refl)) (waited_for (released waits_for_it q k).mode) (released_waits waits_for_it q k (IsLiveChild rows q) b.stood.waits);
              fits = (λ ne. released_fits waits_for_it q k b.fact, other q _ e);
            });
      })

  pub exec_alike : Alike (exec_rows p l rows) p l
  exec_alike = alike_of (settled_process (redisposed p)) (settled_lwp (redisposed p) (record l { mode = User })) (record {
    sound = (settle_sound made p.pid exec_but_pending);
    home = subst (λ b. process_of p.pid (settle p.pid made).processes ≡ Some (if b then settled_process (redisposed p) else redisposed p)) (eq-eqb p.pid p.pid refl)
        (changed_process p.pid (is_numbered p.pid) settled_process settled_lwp made (redisposed p) (λ q. refl) (changed_own p redisposed rows.processes (λ q. refl) a.home));
    there = subst (λ b. lwp_of l.tid (settle p.pid made).lwps ≡ Some (if b then settled_lwp (redisposed p) (record l { mode = User }) else record l { mode = User })) (eq-eqb p.pid p.pid refl)
        (changed_lwp l.tid (is_numbered p.pid) settled_process settled_lwp made (record l { mode = User }) (redisposed p) (λ q k. refl) found_lwp (ap (λ n. process_of n made.processes) a.own ∙ (changed_own p redisposed rows.processes (λ q. refl) a.home)));
    own = a.own;
    run = a.run;
  }) refl refl refl refl

-- ---- A fork keeps rows sound.

-- After SIGCHLD was posted, to it or to others, a row has other pending signals at most
pub heard : (rows : Rows) (pids : List ℕ) (n : ℕ) (p : ProcData) → process_of n rows.processes ≡ Some p → (m : ℕ) × (process_of n (notified pids rows).processes ≡ Some (record p { pending = m }))
heard rows pids n p at = grind (arith, nat_tests, choose (list_any (λ m. m == p.pid) pids) (posted_process SIGCHLD None p) p (λ q. (m : ℕ) × (q ≡ record p { pending = m })) (λ e. (_, refl)) (λ e. (p.pending, refl)), changed_process n (λ q. list_any (λ m. m == q.pid) pids) (posted_process SIGCHLD None) (posted_lwp SIGCHLD None) rows p (λ q. refl) at)

heard_lwp : (rows : Rows) (pids : List ℕ) (n : ℕ) (l : LwpData) (p : ProcData) → lwp_of n rows.lwps ≡ Some l → process_of l.pid rows.processes ≡ Some p → (m : ℕ) × (lwp_of n (notified pids rows).lwps ≡ Some (record l { pending = m }))
heard_lwp rows pids n l p there home = grind (arith, nat_tests, choose (list_any (λ m. m == p.pid) pids) (posted_lwp SIGCHLD None p l) l (λ k. (m : ℕ) × (k ≡ record l { pending = m })) (λ e. (_, refl)) (λ e. (l.pending, refl)), changed_lwp n (λ q. list_any (λ m. m == q.pid) pids) (posted_process SIGCHLD None) (posted_lwp SIGCHLD None) rows l p (λ q k. refl) there home)

-- Rows other than the one that stops

other_process : (n pid : ℕ) (f : ProcData → ProcData) (rows : Rows) (p : ProcData) → ((q : ProcData) → (f q).pid ≡ q.pid) → process_of n rows.processes ≡ Some p → (p.pid == pid) ≡ false → process_of n (change_process pid f rows).processes ≡ Some p
other_process n pid f rows p same at other = find_edit (λ q. q.pid == n) (λ q. Some (if q.pid == pid then f q else q)) (λ q. choose (q.pid == pid) (f q) q (λ r. (r.pid == n) ≡ (q.pid == n)) (λ e. ap (λ m. eqb m n) (same q)) (λ e. refl)) rows.processes p p at (rw other refl)

other_lwp : (n tid : ℕ) (g : LwpData → LwpData) (rows : Rows) (l : LwpData) → ((k : LwpData) → (g k).tid ≡ k.tid) → lwp_of n rows.lwps ≡ Some l → (l.tid == tid) ≡ false → lwp_of n (change_lwp tid g rows).lwps ≡ Some l
other_lwp n tid g rows l same there other = find_edit (λ k. k.tid == n) (λ k. Some (if k.tid == tid then g k else k)) (λ k. choose (k.tid == tid) (g k) k (λ j. (j.tid == n) ≡ (k.tid == n)) (λ e. ap (λ m. eqb m n) (same k)) (λ e. refl)) rows.lwps l l there (rw other refl)

pub find_last : {X : Type 0} (q : X → Bool) (xs : List X) (x : X) → list_any q xs ≡ false → q x ≡ true → find q (xs ++ (x ∷ [])) ≡ Some x
find_last q [] x none is = rw is refl
find_last {X} q (y ∷ xs) x none is = search (rules, find_last q xs x)

-- The child

module _ (call : Call) (rows : Rows) (p : ProcData) (l : LwpData) (a : Acting rows p l) (new : Numbers) (room : ProcessRoom p.uid rows new) where
  abbrev child : Bool → ProcData
  child followed = forked followed p new.pid

  abbrev its_lwp : LwpData
  its_lwp = born new.tid new.pid l.blocked Due.Nothing

  abbrev grown : Bool → Rows
  grown followed = add_lwp p.uid its_lwp (add_process (child followed) rows)

  pub made_sound : (followed : Bool) → (followed ≡ true → is_some p.tracer ≡ true) → IsSound (grown followed)
  made_sound followed traced = born_sound rows (child followed) its_lwp a.sound (grind (arith, nat_tests, room, its_user rows p l a, find_some, (live_row rows p a.home (its_live rows p l a)), traced, lwp_fit rows p l a, zero_apart))

  -- unused numbers
  other_pid : p.pid ≢ new.pid
  other_pid same = grind (arith, nat_tests, find_passes (λ q. q.pid == p.pid) (λ q. q.pid == new.pid) rows.processes p a.home, same, room.free)

  -- the rows that are found then
  found_parent : (followed : Bool) → process_of p.pid (grown followed).processes ≡ Some p
  found_parent followed = process_of-other (child followed) rows.processes a.sound.stands.rising room.free p.pid other_pid ∙ a.home

  found_forker : (followed : Bool) → lwp_of l.tid (grown followed).lwps ≡ Some l
  found_forker followed = find_more (λ k. k.tid == l.tid) rows.lwps (its_lwp ∷ []) l a.there

  found_child : (followed : Bool) → process_of new.pid (grown followed).processes ≡ Some (child followed)
  found_child followed = process_of-placed (child followed) rows.processes a.sound.stands.rising room.free

  found_first : (followed : Bool) → lwp_of new.tid (grown followed).lwps ≡ Some its_lwp
  found_first followed = find_last (λ k. k.tid == new.tid) rows.lwps its_lwp room.lwp.new (eq-eqb new.tid new.tid refl)

  -- the rows with the child: the forking LWP and its process, and the child as a live one of theirs
  pub record Forked (after : Rows) : Type 0 where
    pub alike : Alike after p l
    pub uid : alike.process.uid ≡ p.uid
    pub child : IsLiveChild after alike.process new.pid

  is_child : (after : Rows) (q r : ProcData) → process_of new.pid after.processes ≡ Some r → r.pid ≡ new.pid → r.uid ≡ q.uid → is_live r ≡ true → r.parent ≡ q.pid → IsLiveChild after q new.pid
  is_child after q r at pid uid live parent = find_passes (λ k. k.pid == new.pid) (child_test q new.pid) after.processes r at (child_passes q new.pid r (record { pid = pid; uid = uid; live = live; parent = parent }))

  -- not followed
  made_forked : (followed : Bool) → (followed ≡ true → is_some p.tracer ≡ true) → Forked (grown followed)
  made_forked followed traced = record {
    alike = alike_of p l (record { sound = made_sound followed traced; home = found_parent followed; there = found_forker followed; own = a.own; run = a.run }) refl refl refl refl;
    uid = refl;
    child = is_child (grown followed) p (child followed) (found_child followed) refl refl refl refl;
  }

  -- followed, in its first stop
  module _ (traced : is_some p.tracer ≡ true) where
    abbrev shown : StopInfo
    shown = child_stop call

    abbrev shows_it : LwpData → LwpData
    shows_it k = record k { flags = shown.flags; child = shown.child; code = shown.code }

    abbrev stops_it : ProcData → ProcData
    stops_it q = record q { state = Trace new.tid shown.sig false }

    abbrev stopping : Rows
    stopping = change_process new.pid stops_it (change_lwp new.tid shows_it (grown true))

    abbrev after : Rows
    after = stop new.pid new.tid shown (grown true)

    abbrev told : List ℕ
    told = tracers (tracer_of (grown true).processes new.pid)

    pub child_may_stop : MayStop new.pid new.tid shown (grown true)
    child_may_stop = grind (arith, nat_tests, sound_ready (grown true) new.pid new.tid shown (child true) (made_sound true (λ e. traced)) (found_child true) (record { live = refl; traced = traced; quiet = refl; calm = refl }) (subst (λ o. IsSomeAnd o (λ (k : LwpData). k.pid ≡ new.pid)) (sym (found_first true)) refl) (λ is. absurd (true≢false (sym is))))

    stopped_forked : Forked after
    stopped_forked =
        let parent = heard stopping told p.pid p (search (rules, other_process, found_parent, by_bool, other_pid, eqb-true)) in
        let forker = heard_lwp stopping told l.tid l p (other_lwp l.tid new.tid shows_it (grown true) l (λ k. refl) (found_forker true) (search (rules, by_bool, eqb-true, find_passes, eq-eqb))) (ap (λ n. process_of n stopping.processes) a.own ∙ (search (rules, other_process, found_parent, by_bool, other_pid, eqb-true))) in
        let its = heard stopping told new.pid (stops_it (child true)) (changed_own (child true) stops_it (grown true).processes (λ q. refl) (found_child true)) in
        let q : ProcData = record p { pending = parent.0 } in
        record {
          alike = alike_of q (record l { pending = forker.0 }) (record { sound = (stopped_sound (grown true) new.pid new.tid shown (child true) its_lwp (found_child true) (found_first true) child_may_stop); home = parent.1; there = forker.1; own = a.own; run = a.run }) refl refl refl refl;
          uid = refl;
          child = is_child after q (record (stops_it (child true)) { pending = its.0 }) its.1 refl refl refl refl;
        }

  pub child_forked : Forked (with_child call p l new rows)
  child_forked = search (rules, and_left, stopped_forked, made_forked)

-- ---- The turn of an LWP keeps a host sound.

module _ (settings : Settings) (rows : Rows) (p : ProcData) (l : LwpData) (a : Acting rows p l) where
  -- The work of calls

  forks_sound : (c : Call) (mode : ℕ → Mode) → goes_on c ≡ true → ((after : Rows) (q : ProcData) (n : ℕ) → IsLiveChild after q n → IfSome (waited_for (mode n)) (IsLiveChild after q)) → ((n : ℕ) → mode_fits (mode n) ≡ true)
      → (o : Option Numbers) → IfSome o (ProcessRoom p.uid rows) → IsSound (forks c mode p l rows o).rows
  forks_sound c mode on waits fits None room = a.sound
  forks_sound c mode on waits fits (Some new) room =
      let f = child_forked c rows p l a new room in
      let k = f.alike in
      let after : Rows = with_child c p l new rows in
      stops_or_sound (in_mode (mode new.pid) l.tid after) p k.process l (record k.lwp { mode = mode new.pid }) (exit_stop p c new.pid) (Reply.New new.pid new.tid)
      (subst (λ n. Acting (in_mode (mode new.pid) n after) k.process (record k.lwp { mode = mode new.pid })) k.tid (in_mode_acting after k.process k.lwp k.acting (mode new.pid) (waits after k.process new.pid f.child) (fits new.pid)))
      k.pid k.tid (same_may p k.process k.tracer (exit_stop p c new.pid) (exit_may p (its_fit rows p l a) c new.pid on))

  makes_sound : (o : Option ℕ) → IfSome o (LwpRoom p.uid rows) → IsSound (makes_lwp p l rows o).rows
  makes_sound None room = a.sound
  makes_sound (Some tid) room = grind (arith, nat_tests, stops_or_sound (in_mode User l.tid (add_lwp p.uid (born tid p.pid l.blocked (due_at_birth p)) rows)) p p l (record l { mode = User }) (exit_stop p Call.ThrNew 0) (Reply.New p.pid tid) (in_mode_acting (add_lwp p.uid (born tid p.pid l.blocked (due_at_birth p)) rows) p l (joined_acting rows p l a tid room) User tt refl) refl refl (exit_may p (its_fit rows p l a) Call.ThrNew 0 refl))

  pub leaves_sound : (c : Call) → status_fits c ≡ true → IsSound (leaves settings c p l rows).rows
  leaves_sound Call.Fork fits = forks_sound Call.Fork (λ n. User) refl (λ after q n is. tt) (λ n. refl) (room_for_process p.uid rows) (let user = its_user rows p l a in process_room p.uid rows (a.sound.stands.pid_cursors p.uid user) (a.sound.stands.tid_cursors p.uid user))
  leaves_sound Call.Vfork fits = forks_sound Call.Vfork (λ n. VforkWait n) refl (λ after q n is. is) (λ n. refl) (room_for_process p.uid rows) (let user = its_user rows p l a in process_room p.uid rows (a.sound.stands.pid_cursors p.uid user) (a.sound.stands.tid_cursors p.uid user))
  leaves_sound Call.Exec fits = let k = exec_alike rows p l a in stops_or_sound (exec_rows p l rows) p k.process l k.lwp (exit_stop p Call.Exec 0) Reply.Done k.acting k.pid k.tid (same_may p k.process k.tracer (exit_stop p Call.Exec 0) (exit_may p (its_fit rows p l a) Call.Exec 0 refl))
  leaves_sound Call.ThrNew fits = makes_sound (room_for_lwp p.uid rows) (lwp_room p.uid rows (a.sound.stands.tid_cursors p.uid (its_user rows p l a)))
  leaves_sound Call.ThrExit fits = exits_lwp_sound rows p l a settings
  leaves_sound (Call.Exit status) fits = end_sound rows p l a settings (status * 256) (exit_word status fits)
  leaves_sound (Call.Other code) fits = stops_or_sound (in_mode User l.tid rows) p p l (record l { mode = User }) (exit_stop p (Call.Other code) 0) Reply.Done (in_mode_acting rows p l a User tt refl) refl refl (exit_may p (its_fit rows p l a) (Call.Other code) 0 refl)

  -- Acts

  pub acts_sound : (x : Act) → act_fits x ≡ true → (mode : Mode) → l.mode ≡ mode → IsSound (acts settings x mode p l rows).rows
  acts_sound Act.Compute fits User is = compute_sound rows p l a
  acts_sound (Act.Raise sig) fits User is = raise_sound rows p l a settings sig
  acts_sound (Act.Block set) fits User is = block_sound rows p l a set
  acts_sound (Act.Enter c) fits User is = stops_or_sound (in_mode (InCall c) l.tid rows) p p l (record l { mode = InCall c }) _ Reply.Done (in_mode_acting rows p l a (InCall c) tt fits) refl refl (entry_may p (its_fit rows p l a) c)
  acts_sound Act.Leave fits (InCall c) is = leaves_sound c (ap mode_fits (sym is) ∙ (lwp_fit rows p l a).mode)
  acts_sound x fits mode is = a.sound

  signal_or_act_sound : (x : Act) → act_fits x ≡ true → (o : Option ℕ) → IfSome o IsSignal → IsSound (signal_or_act settings x p l rows o).rows
  signal_or_act_sound x fits None sig = acts_sound x fits l.mode refl
  signal_or_act_sound x fits (Some s) sig = takes_sound settings s sig (without_signal s p l rows) p l (taken_alike rows p l a s)

  due_or_more_sound : (x : Act) → act_fits x ≡ true → (o : Option StopInfo) → due_stop l.due ≡ o → IsSound (due_or_more settings x p l rows o).rows
  due_or_more_sound x fits o is = grind (arith, nat_tests, signal_or_act_sound, next_is_signal, due_sound)

-- The turn

module _ (settings : Settings) (u tid : ℕ) (x : Act) (fits : act_fits x ≡ true) (rows : Rows) (s : IsSound rows) where
  turn_of_sound : (l : LwpData) → seen_lwp u tid rows ≡ Some l → (p : ProcData) → process_of l.pid rows.processes ≡ Some p → IsSound (turn_of settings x p l rows).rows
  turn_of_sound l seen p at = choose (not (is_run p) || l.suspended || waits l.mode) _ _ (λ (o : Outcome). IsSound o.rows) (λ e. s) (λ e.
      due_or_more_sound settings rows p l (seen_acting u tid rows l p s seen at (grind (arith, nat_tests, e))) x fits (due_stop l.due) refl)

  pub turn_rows : IsSound (turn settings u tid x rows).rows
  turn_rows = grind (arith, nat_tests, turn_of_sound)

pub turn_sound : (m : Machine) (u tid : ℕ) (x : Act) → act_fits x ≡ true → sound m ≡ true → sound (step u (Step.Turn tid x) m).machine ≡ true
turn_sound m u tid x fits is = after_sound m (turn m.settings u tid x m.rows) is (turn_rows m.settings u tid x fits m.rows (rows_sound m is))
