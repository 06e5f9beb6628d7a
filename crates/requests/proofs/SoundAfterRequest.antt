-- What a request of ptrace(2) comes to, by its refusals in their order, and that it keeps a host sound.
use Rattle.requests.proofs.CommonNames.{nat_tests, ◌≡◌, ℕ, ◌<◌, List, IfSome, true, false, leb, if◌then◌else◌, Option, Some, is_some, refl, arith, rules, IsSomeAnd, lwp_of, ProcData, State}
use Rattle.requests.proofs.CommonNames.{process_of, is_live, named_by, traces, Rows, TableInvariant, process_of-pid, lwp_of-tid, seen_lwp-kept, lwp-within, Settings, IsSound, some_is, Request}
use Rattle.requests.proofs.CommonNames.{command, reported_stop, target_of, is_trace_me, is_attach, ptrace, ◌≢◌, ◌==◌, None, sym, subst, eqb-true, eq-eqb, default_mask, SIGSTOP, LwpData, first_lwp, is_run}
use Rattle.requests.proofs.CommonNames.{change_process, Ready, FitOrReady, MayStop, IsLiveOf, Linked, FitProcess, All-imply, find_some, choose, not_some, sound_holds, live_fits, live_state, own_lwps}
use Rattle.requests.proofs.CommonNames.{plain, closes_chain, traced_by, trace_me, stop_first, attach, ◌&&◌, list_any, PTRACE_SCE, PTRACE_SCX, PTRACE_FORK, PTRACE_LWP, mask_with, SIGKILL, owns}
use Rattle.requests.proofs.CommonNames.{seen_lwp, find_seen, and_left, and_right, both, if_at, found_number, one_row, find_passes, detach_sound, Outcome, bad_argument, switched, does, signal_alone, no_events, Stepping}
use Rattle.requests.proofs.CommonNames.{commands_stopped, commands, IsCaller}
use Rattle.trace_rows.proofs.StoppedByOwnLwp.{IsStopped-from}
use Rattle.trace_rows.proofs.SoundAfterLink.{Traced, linked_holds, linked_row}
use Rattle.requests.proofs.SoundAfterCall.{caller_live, live_caller}
use Rattle.requests.proofs.SoundAfterMask.{Tracee, OwnLwp, named_lwp, suspend_sound, set_mask_sound, resumes_sound, continues_sound}
use Rattle.trace_rows.proofs.SoundAfterStop as stops
use Rattle.lwp_table.proofs.CountLemmas.{count-none}

pub told_reports : (s : State) (tid : ℕ) → reported_stop s ≡ Some tid → named_by s ≡ Some tid
told_reports s tid told = grind (arith, nat_tests)

-- The LWP that a target names

module _ (u target : ℕ) (rows : Rows) (p : ProcData) (kept : TableInvariant rows) (at : target_of u target rows ≡ Some p) (large : leb target 99999 ≡ false) where
  pub target_lwp : IsSomeAnd (lwp_of target rows.lwps) (λ l. l.pid ≡ p.pid)
  target_lwp = grind (arith, nat_tests, seen_lwp-kept, process_of-pid)

  pub target_within : target < 356000
  target_within = search (rules, target_lwp, lwp-within, lwp_of-tid)

pub named_own : (u target tid : ℕ) (rows : Rows) (p : ProcData) → TableInvariant rows → target_of u target rows ≡ Some p → IsSomeAnd (lwp_of tid rows.lwps) (λ l. l.pid ≡ p.pid)
    → IsSomeAnd (lwp_of (if leb target 99999 then tid else target) rows.lwps) (λ l. l.pid ≡ p.pid)
named_own u target tid rows p kept at own = search (rules, target_lwp)

-- the LWP that reports a stop is the process's
pub reporting_own : (rows : Rows) (p : ProcData) (tid : ℕ) → IsSound rows → process_of p.pid rows.processes ≡ Some p → reported_stop p.state ≡ Some tid → IsSomeAnd (lwp_of tid rows.lwps) (λ l. l.pid ≡ p.pid)
reporting_own rows p tid s at told = grind (arith, nat_tests, told_reports, IsStopped-from p.pid tid rows p s.stands at, some_is, told)

-- a request about a tracee of the caller, in a stop that was reported to it
pub asks_tracee : (settings : Settings) (u : ℕ) (caller : ProcData) (r : Request) (target arg : ℕ) (rows : Rows) (p : ProcData) (tid : ℕ)
    → is_trace_me r ≡ false → target_of u target rows ≡ Some p → is_live p ≡ true → is_attach r ≡ false → is_some p.tracer ≡ true → traces caller.pid p ≡ true → reported_stop p.state ≡ Some tid
    → ptrace settings u caller r target arg rows ≡ command settings r arg (if leb target 99999 then tid else target) p rows
asks_tracee settings u caller r target arg rows p tid me at live new traced mine told = rw (me, at, live, new, traced, mine, told) refl

-- a process that a number finds is found by its own
pub own_row : (n : ℕ) (ps : List ProcData) (o : Option ProcData) → o ≡ process_of n ps → IfSome o (λ p. process_of p.pid ps ≡ Some p)
own_row n ps o at = grind (arith, nat_tests, process_of-pid)

-- ---- A process that gets a tracer, by its own request or by an attach, keeps rows sound.

module _ (rows : Rows) (p : ProcData) (n : ℕ) (s : IsSound rows) (at : process_of p.pid rows.processes ≡ Some p) (live : is_live p ≡ true) (free : p.tracer ≡ None)
    (tracer : IsLiveOf rows p.uid n) (other : n ≢ p.pid) (far : closes_chain p.pid n rows ≡ false) where
  abbrev tracee : ProcData
  tracee = traced_by n p

  abbrev made : Rows
  made = change_process p.pid (traced_by n) rows

  abbrev Others : ProcData → Type 0
  Others = Traced rows p n default_mask s at tracer other far

  run_fits : is_run p ≡ true → FitProcess tracee
  run_fits run = grind (arith, nat_tests, live_fits, live_state)

  -- one that runs
  pub run_traced_sound : is_run p ≡ true → IsSound made
  run_traced_sound run = grind (arith, nat_tests, sound_holds made (record { stands = (linked_holds rows p n default_mask s at tracer other far).stands; processes = All-imply Others FitProcess (λ q h. grind (arith, nat_tests, h, run_fits run, eqb-true q.pid p.pid, eq-eqb q.pid p.pid)) made.processes (linked_holds rows p n default_mask s at tracer other far).processes; lwps = (linked_holds rows p n default_mask s at tracer other far).lwps }), run_fits run, eqb-true, eq-eqb)

  pub attached_may_stop : (l : LwpData) → lwp_of l.tid rows.lwps ≡ Some l → l.pid ≡ p.pid → MayStop p.pid l.tid (plain SIGSTOP) made
  attached_may_stop l there own =
      let held = linked_holds rows p n default_mask s at tracer other far in
      let kept = All-imply Others (FitOrReady p.pid) (λ q h. (h.0, λ same. subst Ready (sym (h.1 same)) (grind (arith, nat_tests, find_some)))) made.processes held.processes in
      grind (arith, nat_tests, held, kept, there, own)

  stopped_sound : (l : LwpData) → lwp_of l.tid rows.lwps ≡ Some l → l.pid ≡ p.pid → IsSound (stop_first p.pid (Some l) made)
  stopped_sound l there own = stops.stopped_sound made p.pid l.tid (plain SIGSTOP) tracee l (linked_row rows p n default_mask s at tracer other far) there (attached_may_stop l there own)

  pub attached_sound : IsSound (stop_first p.pid (first_lwp p.pid rows.lwps) made)
  attached_sound = by_first (first_lwp p.pid rows.lwps) refl
    where
      by_first : (o : Option LwpData) → first_lwp p.pid rows.lwps ≡ o → IsSound (stop_first p.pid o made)
      by_first None e = absurd (grind (arith, nat_tests, find_some (λ q. q.pid == p.pid) (Linked rows) rows.processes s.stands.linked p at, live, count-none (λ l. l.pid == p.pid) rows.lwps e))
      by_first (Some l) e =
          let found = find_some (λ k. k.pid == p.pid) (λ k. lwp_of k.tid rows.lwps ≡ Some k) rows.lwps (own_lwps rows.lwps s.stands.differ) l e in
          stopped_sound l found.0 (eqb-true l.pid p.pid found.1)

pub trace_me_sound : (rows : Rows) (p : ProcData) → IsSound rows → process_of p.pid rows.processes ≡ Some p → is_live p ≡ true → is_run p ≡ true → IsSound (trace_me p rows).rows
trace_me_sound rows p s at live run = grind (arith, nat_tests, find_some (λ q. q.pid == p.pid) (Linked rows) rows.processes s.stands.linked p at, choose, run_traced_sound, not_some, eq-eqb)

pub attach_sound : (rows : Rows) (caller p : ProcData) → IsSound rows → process_of p.pid rows.processes ≡ Some p → is_live p ≡ true → IsLiveOf rows p.uid caller.pid → IsSound (attach caller p rows).rows
attach_sound rows caller p s at live tracer = grind (arith, nat_tests, choose, attached_sound, not_some, eq-eqb)

-- ---- Each request of a debugger keeps a host sound.

-- the process that a target names

-- the LWP that a number names, and its process
pub record NamedLwp (u n : ℕ) (rows : Rows) (m : ℕ) : Type 0 where
  pub lwp : LwpData
  pub seen : seen_lwp u n rows ≡ Some lwp
  pub own : lwp.pid ≡ m

seen_lwp_owned : (u n : ℕ) (rows : Rows) (l : LwpData) → IsSound rows → seen_lwp u n rows ≡ Some l → (lwp_of n rows.lwps ≡ Some l) × (owns u l.pid rows.processes ≡ true)
seen_lwp_owned u n rows l s seen = search (rules, find_some, own_lwps, eqb-true, and_left, and_right)

owned_uid : (u m : ℕ) (rows : Rows) (p : ProcData) → IsSound rows → owns u m rows.processes ≡ true → process_of m rows.processes ≡ Some p → p.uid ≡ u
owned_uid u m rows p s own at = grind (arith, nat_tests, eqb-true p.uid u (((find_some (λ q. q.pid == m) (λ q. list_any (λ r. (r.pid == q.pid) && (r.uid == u)) rows.processes ≡ true → (q.uid == u) ≡ true) rows.processes (one_row (λ r. r.uid == u) rows.processes s.stands.rising) p at).0) (subst (λ k. owns u k rows.processes ≡ true) (sym (found_number m rows.processes p at)) own)))

-- Requests about a stopped tracee

pub does_sound : (settings : Settings) (r : Request) (arg tid : ℕ) (p : ProcData) (rows : Rows) → Tracee rows p → OwnLwp rows p tid → IsSound (does settings r arg tid p rows).rows
does_sound settings Request.Continue arg tid p rows t o = continues_sound rows p t settings no_events Stepping.Nobody arg
does_sound settings Request.Step arg tid p rows t o = continues_sound rows p t settings no_events (Stepping.Only tid) arg
does_sound settings Request.Suspend arg tid p rows t o = suspend_sound rows p t tid o true
does_sound settings Request.Resume arg tid p rows t o = suspend_sound rows p t tid o false
does_sound settings Request.Detach arg tid p rows t o = detach_sound settings rows p.pid p t.sound t.home t.live t.traced arg
does_sound settings Request.Kill arg tid p rows t o = resumes_sound rows p t settings (signal_alone SIGKILL)
does_sound settings Request.SetEventMask arg tid p rows t o = set_mask_sound rows p t (λ mask. record { 0 = arg })
does_sound settings Request.LwpInfo arg tid p rows t o = search (rules)
does_sound settings Request.ToSce arg tid p rows t o = continues_sound rows p t settings PTRACE_SCE Stepping.Nobody arg
does_sound settings Request.ToScx arg tid p rows t o = continues_sound rows p t settings PTRACE_SCX Stepping.Nobody arg
does_sound settings Request.Syscall arg tid p rows t o = continues_sound rows p t settings (mask_with PTRACE_SCE PTRACE_SCX) Stepping.Nobody arg
does_sound settings Request.FollowFork arg tid p rows t o = set_mask_sound rows p t (switched PTRACE_FORK arg)
does_sound settings Request.LwpEvents arg tid p rows t o = set_mask_sound rows p t (switched PTRACE_LWP arg)
does_sound settings r arg tid p rows t o = t.sound

module _ (settings : Settings) (u : ℕ) (caller : ProcData) (r : Request) (target arg : ℕ) (rows : Rows) (s : IsSound rows) (c : IsCaller u caller rows) where
  module _ (m : ℕ) (seen : find_seen u target rows ≡ Some m) (p : ProcData) (at : process_of m rows.processes ≡ Some p) (live : is_live p ≡ true) where
    home : process_of p.pid rows.processes ≡ Some p
    home = subst (λ n. process_of n rows.processes ≡ Some p) (sym (found_number m rows.processes p at)) at

    tracee_sound : is_some p.tracer ≡ true → (o : Option ℕ) → reported_stop p.state ≡ o → IsSound (commands_stopped settings r target arg p rows o).rows
    tracee_sound traced None told = s
    tracee_sound traced (Some tid) told = choose (bad_argument r arg) _ _ (λ (x : Outcome). IsSound x.rows) (λ e. s)
        (λ e. does_sound settings r arg (if leb target 99999 then tid else target) p rows (record { sound = s; home = home; live = live; traced = traced }) (search (rules, named_lwp, if_at, told_reports, seen_lwp_owned, (found_number m rows.processes p at), find_some, some_is)))

    tracer : IsLiveOf rows p.uid caller.pid
    tracer = search (rules, owned_uid, live_caller, find_some, find_passes, both, eq-eqb, and_right, seen_lwp_owned, some_is)

    pub live_sound : IsSound (if is_attach r then attach caller p rows else commands settings caller r target arg p rows).rows
    live_sound = choose (is_attach r) _ _ (λ (x : Outcome). IsSound x.rows) (λ e. attach_sound rows caller p s home live tracer) (λ e. (search (rules, choose, tracee_sound)))

  pub ptrace_rows : IsSound (ptrace settings u caller r target arg rows).rows
  ptrace_rows = choose (is_trace_me r) _ _ (λ (x : Outcome). IsSound x.rows) (λ e. trace_me_sound rows caller s c.at (caller_live u rows caller c) c.runs) (λ e. (search (rules, live_sound)))
