-- What the work of a step leaves, kind by kind: a refused call changes nothing, none is out of memory, and each live
-- process stays live, unless the answer is one that may end a process.
use Rattle.requests.proofs.CommonNames.{◌≡◌, ℕ, ℤ, Bool, true, false, ◌==◌, not, ◌&&◌, ◌||◌, leb, if◌then◌else◌, List, [], ◌∷◌, filter, filter_map, Option, Some, None, is_some, refl, sym, ◌∙◌}
use Rattle.requests.proofs.CommonNames.{true≢false, rules, arith, nat_tests, cases_Bool, list_any, SIGCHLD, Call, Action, Disposition, is_signal, has, LwpData, Due, Mode, User, InCall, VforkWait}
use Rattle.requests.proofs.CommonNames.{born, ProcData, Trace, Job, is_live, is_run, placed, spawned, process_of, Rows, seen_lwp, Settings, StopInfo, Rule, Options, Collected, posted_process}
use Rattle.requests.proofs.CommonNames.{settled_process, notifies, posted, stop, tracers, tracer_of, reported, without_report, add_lwp, add_process, is_numbered, Request, Act, Reply, Outcome}
use Rattle.requests.proofs.CommonNames.{PlainStep, Step, Machine, After, after, answers, refuses, stops_or, stops_with, Numbers, room_for_process, in_mode, exit_stop, with_child, forked, exec_rows}
use Rattle.requests.proofs.CommonNames.{forks, leaves, waits, due_stop, next_signal, without_signal, takes_by_default, takes, acts, signal_or_act, due_or_more, turn_by, turn_seen, turn, commands}
use Rattle.requests.proofs.CommonNames.{is_attach, about, target_of, ptrace, is_which, reach, reached, post_all, post_if_live, kill, spawn_with, sigaction, wait, handles, asks}
use Rattle.requests.proofs.CommonNames.{PTRACE_FORK, EAGAIN, EINVAL, ESRCH, All-any, and_right, option_map, after_exec, set_disposition, without, bit, plain, trap, PL_FLAG_EXITED, SIGTRAP}
use Rattle.requests.proofs.CommonNames.{entry_flags, child_stop, change_lwp, is_refusal, is_memory, told, handled_by, no_options, rows_after, collect, negsuc, sound, install, installed_by, length, ap}
use Rattle.requests.proofs.CommonNames.{may_end, any_forward, or_true, list_any-append}
use Rattle.wait4.specs.Collect.{collected}
use Rattle.trace_rows.specs.{Stop.ends_process, Stop.resume, Stop.detach, Detach.running, Detach.untraced, declared.Resumption.Resumption, declared.Stepping.Stepping}
use Rattle.requests.specs.Ptrace.{attach, bad_argument, closes_chain, commands_stopped, does, shows_info, stop_first, switched, trace_me, traced_by}
use Rattle.requests.proofs.CommonNames.{PTRACE_SCE, PTRACE_SCX, PTRACE_LWP, SIGSTOP, first_lwp, info, mask_with, no_events, change_process, reported_stop, traces}
use Rattle.step_types.specs.Replies.{is_listing}
use Rattle.requests.proofs.SoundWithoutEnded.{answers_same}
use Rattle.requests.proofs.SoundAfterCall.{choose}

abbrev pub live_at : ℕ → ProcData → Bool
live_at n p = (p.pid == n) && is_live p

-- the numbers of live processes are so in later rows
pub record Lives (ps qs : List ProcData) : Type 0 where
  pub at : (n : ℕ) → list_any (live_at n) ps ≡ true → list_any (live_at n) qs ≡ true

pub all_live : (ps : List ProcData) → Lives ps ps
all_live ps = record { at = λ n is. is }

live_then : {ps qs rs : List ProcData} → Lives ps qs → Lives qs rs → Lives ps rs
live_then a b = record { at = λ n is. b.at n (a.at n is) }

-- an edit that keeps a live process and its number
abbrev spares : ProcData → Option ProcData → Bool
spares p None = false
spares p (Some q) = (q.pid == p.pid) && is_live q

spared_at : (n : ℕ) (p : ProcData) (o : Option ProcData) → live_at n p ≡ true → spares p o ≡ true → (q : ProcData) × (o ≡ Some q) × (live_at n q ≡ true)
spared_at n p o at kept = grind (arith, nat_tests)

live_edit : (f : ProcData → Option ProcData) → ((p : ProcData) → is_live p ≡ true → spares p (f p) ≡ true) → (ps : List ProcData) → Lives ps (filter_map f ps)
live_edit f h ps = record {
  at = λ n is. any_forward (live_at n) (live_at n) (λ p. Unit {0}) f (λ p _ at. spared_at n p (f p) at (h p (and_right (p.pid == n) (is_live p) at))) ps (All-any (λ p. Unit {0}) (λ p. tt) ps) is;
}

-- chosen processes changed
live_some : (chosen : ProcData → Bool) (f : ProcData → ProcData) → ((p : ProcData) → (f p).pid ≡ p.pid) → ((p : ProcData) → is_live p ≡ true → is_live (f p) ≡ true) → (ps : List ProcData)
    → Lives ps (filter_map (λ p. Some (if chosen p then f p else p)) ps)
live_some chosen f same stays ps = live_edit (λ p. Some (if chosen p then f p else p)) (λ p live. grind (arith, nat_tests, same p, stays p, live)) ps

live_notified : (pids : List ℕ) (ps : List ProcData) → Lives ps (filter_map (λ p. Some (if list_any (λ n. n == p.pid) pids then posted_process SIGCHLD None p else p)) ps)
live_notified pids ps = live_some (λ p. list_any (λ n. n == p.pid) pids) (posted_process SIGCHLD None) (λ p'. grind arith) (λ p' live. grind (arith, live)) ps

live_posted : (s : ℕ) (to : Option ℕ) (pid : ℕ) (rows : Rows) → Lives rows.processes (posted s to pid rows).processes
live_posted s to pid rows = live_then (live_some (is_numbered pid) (posted_process s to) (λ p. grind arith) (λ p live. grind (arith, live)) rows.processes) (live_notified (notifies s (process_of pid rows.processes)) _)

live_stop : (pid tid : ℕ) (shown : StopInfo) (rows : Rows) → Lives rows.processes (stop pid tid shown rows).processes
live_stop pid tid shown rows = live_then (live_some (is_numbered pid) (λ p. record p { state = Trace tid shown.sig false }) (λ p. refl) (λ p live. refl) rows.processes) (live_notified (tracers (tracer_of rows.processes pid)) _)

-- a new process leaves the others
either_side : {X : Type 0} (t f g : X → Bool) → ((x : X) → t x ≡ true → (f x || g x) ≡ true) → (xs : List X) → list_any t xs ≡ true → (list_any t (filter f xs) || list_any t (filter g xs)) ≡ true
either_side t f g h [] is = absurd (true≢false (sym is))
either_side {X} t f g h (x ∷ xs) is = grind (arith, nat_tests, is, h x, either_side t f g h xs)

live_placed : (p : ProcData) → is_live p ≡ true → (ps : List ProcData) → Lives ps (placed p ps)
live_placed p live ps = grind (arith, nat_tests, list_any-append, cases_Bool, or_true, either_side)

-- whether an answer leaves all as it was: a refusal, a list, or nothing
abbrev pub is_nothing : Reply → Bool
is_nothing Reply.Nothing = true
is_nothing r = false

abbrev pub keeps : Reply → Bool
keeps r = is_refusal r || (is_listing r || is_nothing r)

-- such an answer leaves the rows, none is ENOMEM, and each live process stays live, unless the answer is one of these
pub record Fair (but : Reply → Bool) (rows : Rows) (o : Outcome) : Type 0 where
  pub same : keeps o.reply ≡ true → o.rows ≡ rows
  pub plenty : is_memory o.reply ≡ false
  pub lives : but o.reply ≡ false → Lives rows.processes o.rows.processes

-- an answer that is none of these, one of these, and one that leaves the rows
pub done : (but : Reply → Bool) (rows now : Rows) (r : Reply) → keeps r ≡ false → is_memory r ≡ false → Lives rows.processes now.processes → Fair but rows (answers r now)
done but rows now r other plenty kept = record { same = λ is. absurd (true≢false (sym is ∙ other)); plenty = plenty; lives = λ no. kept }

excepted : (but : Reply → Bool) (rows now : Rows) (r : Reply) → keeps r ≡ false → is_memory r ≡ false → but r ≡ true → Fair but rows (answers r now)
excepted but rows now r other plenty is = record { same = λ kept. absurd (true≢false (sym kept ∙ other)); plenty = plenty; lives = λ no. absurd (true≢false (sym is ∙ no)) }

pub left : (but : Reply → Bool) (rows : Rows) (r : Reply) → is_memory r ≡ false → Fair but rows (answers r rows)
left but rows r plenty = record { same = λ is. refl; plenty = plenty; lives = λ no. all_live rows.processes }

by_option : {X : Type 0} (o : Option X) (R : Option X → Type 0) → R None → ((x : X) → R (Some x)) → R o
by_option o R none some = grind (arith, nat_tests)

-- The turn of an LWP

abbrev pub is_ended : Reply → Bool
is_ended r = may_end (Step.Turn 0 Act.Leave) r

stops_live : (rows now : Rows) (shown : StopInfo) (p : ProcData) (l : LwpData) → Lives rows.processes now.processes → Fair is_ended rows (stops_with shown p l now)
stops_live rows now shown p l kept = done is_ended rows _ _ refl refl (live_then kept (live_stop p.pid l.tid shown now))

stop_or : (rows now : Rows) (o : Option StopInfo) (r : Reply) (p : ProcData) (l : LwpData) → keeps r ≡ false → is_memory r ≡ false → Lives rows.processes now.processes → Fair is_ended rows (stops_or o r p l now)
stop_or rows now o r p l other plenty kept = grind (arith, nat_tests, done, stops_live)

child_live : (c : Call) (p : ProcData) (l : LwpData) (new : Numbers) (rows : Rows) → Lives rows.processes (with_child c p l new rows).processes
child_live c p l new rows =
    let made = live_placed (forked (is_some p.tracer && asks p.mask PTRACE_FORK) p new.pid) refl rows.processes in
    choose (is_some p.tracer && asks p.mask PTRACE_FORK) _ _ (λ (now : Rows). Lives rows.processes now.processes) (live_then made (live_stop new.pid new.tid (child_stop c) (add_lwp p.uid (born new.tid new.pid l.blocked Due.Nothing) (add_process (forked (is_some p.tracer && asks p.mask PTRACE_FORK) p new.pid) rows)))) made

forks_fair : (c : Call) (mode : ℕ → Mode) (p : ProcData) (l : LwpData) (rows : Rows) (o : Option Numbers) → Fair is_ended rows (forks c mode p l rows o)
forks_fair c mode p l rows None = left is_ended rows (Reply.Errno EAGAIN) refl
forks_fair c mode p l rows (Some new) = stop_or rows (in_mode (mode new.pid) l.tid (with_child c p l new rows)) (exit_stop p c new.pid) (Reply.New new.pid new.tid) p l refl refl (child_live c p l new rows)

exec_live : (p : ProcData) (l : LwpData) (rows : Rows) → Lives rows.processes (exec_rows p l rows).processes
exec_live p l rows = live_then (live_some (is_numbered p.pid) (λ q. record q { dispositions = after_exec q.dispositions }) (λ q. refl) (λ q live. live) rows.processes) (live_some (is_numbered p.pid) settled_process (λ p'. refl) (λ p' live. live) _)

leaves_fair : (settings : Settings) (c : Call) (p : ProcData) (l : LwpData) (rows : Rows) → Fair is_ended rows (leaves settings c p l rows)
leaves_fair settings Call.Fork p l rows = forks_fair Call.Fork (λ child. User) p l rows (room_for_process p.uid rows)
leaves_fair settings Call.Vfork p l rows = forks_fair Call.Vfork (λ child. VforkWait child) p l rows (room_for_process p.uid rows)
leaves_fair settings Call.Exec p l rows = stop_or rows (exec_rows p l rows) (exit_stop p Call.Exec 0) Reply.Done p l refl refl (exec_live p l rows)
leaves_fair settings Call.ThrNew p l rows = grind (arith, nat_tests, by_option, left, stop_or, all_live)
leaves_fair settings Call.ThrExit p l rows = grind (arith, nat_tests, choose, excepted, stops_live rows rows (trap PL_FLAG_EXITED 0 Call.ThrExit) p l (all_live rows.processes), done)
leaves_fair settings (Call.Exit status) p l rows = excepted is_ended rows _ _ refl refl refl
leaves_fair settings (Call.Other code) p l rows = stop_or rows (in_mode User l.tid rows) (exit_stop p (Call.Other code) 0) Reply.Done p l refl refl (all_live rows.processes)

default_fair : (settings : Settings) (s : ℕ) (a : Action) (p : ProcData) (l : LwpData) (rows now : Rows) → Lives rows.processes now.processes → Fair is_ended rows (takes_by_default settings s a p l now)
default_fair settings s Action.End p l rows now kept = excepted is_ended rows _ _ refl refl refl
default_fair settings s Action.Stop p l rows now kept = grind (arith, nat_tests, done, live_then kept (live_then (live_some (is_numbered p.pid) (λ q. record q { state = Job s false; continued = false }) (λ q. refl) (λ q live. refl) now.processes) (live_notified (p.parent ∷ []) _)), live_notified)
default_fair settings s Action.Discard p l rows now kept = done is_ended rows now Reply.Done refl refl kept

taken_live : (s : ℕ) (p : ProcData) (l : LwpData) (rows : Rows) → Lives rows.processes (without_signal s p l rows).processes
taken_live s p l rows = choose (has l.pending s) _ _ (λ (now : Rows). Lives rows.processes now.processes) (all_live rows.processes) (live_some (is_numbered p.pid) (λ q. record q { pending = without q.pending (bit s) }) (λ q. refl) (λ q live. live) rows.processes)

takes_fair : (settings : Settings) (s : ℕ) (p : ProcData) (l : LwpData) (rows now : Rows) → Lives rows.processes now.processes → Fair is_ended rows (takes settings s p l now)
takes_fair settings s p l rows now kept = search (rules, choose, stops_live, default_fair, done)

acts_fair : (settings : Settings) (a : Act) (mode : Mode) (p : ProcData) (l : LwpData) (rows : Rows) → Fair is_ended rows (acts settings a mode p l rows)
acts_fair settings Act.Compute User p l rows = choose l.stepping _ _ (Fair is_ended rows) (stops_live rows (change_lwp l.tid (λ k. record k { stepping = false }) rows) (plain SIGTRAP) p l (all_live rows.processes)) (left is_ended rows Reply.Done refl)
acts_fair settings (Act.Raise s) User p l rows = choose (not (is_signal s)) _ _ (Fair is_ended rows) (left is_ended rows (Reply.Errno EINVAL) refl) (grind (arith, nat_tests, cases_Bool, excepted, done, live_posted))
acts_fair settings (Act.Block set) User p l rows = done is_ended rows _ _ refl refl (all_live rows.processes)
acts_fair settings (Act.Enter c) User p l rows = stop_or rows (change_lwp l.tid (λ k. record k { mode = InCall c }) rows) (option_map (λ flags. trap flags 0 c) (entry_flags p.mask)) Reply.Done p l refl refl (all_live rows.processes)
acts_fair settings Act.Leave (InCall c) p l rows = leaves_fair settings c p l rows
acts_fair settings a mode p l rows = left is_ended rows (Reply.Errno EINVAL) refl

pub turn_fair : (settings : Settings) (u tid : ℕ) (a : Act) (rows : Rows) → Fair is_ended rows (turn settings u tid a rows)
turn_fair settings u tid a rows =
    by_option (seen_lwp u tid rows) (λ o. Fair is_ended rows (turn_seen settings a rows o)) (left is_ended rows (Reply.Errno ESRCH) refl) (λ l.
    by_option (process_of l.pid rows.processes) (λ o. Fair is_ended rows (turn_by settings a l rows o)) (left is_ended rows (Reply.Errno ESRCH) refl) (λ p.
    choose (not (is_run p) || l.suspended || waits l.mode) _ _ (Fair is_ended rows) (left is_ended rows Reply.Held refl)
    (by_option (due_stop l.due) (λ o. Fair is_ended rows (due_or_more settings a p l rows o))
    (by_option (next_signal p l) (λ o. Fair is_ended rows (signal_or_act settings a p l rows o)) (acts_fair settings a l.mode p l rows) (λ s. takes_fair settings s p l rows (without_signal s p l rows) (taken_live s p l rows)))
    (λ shown. stops_live rows (change_lwp l.tid (λ k. record k { due = Due.Nothing }) rows) shown p l (all_live rows.processes)))))

-- The requests of a debugger

-- no signal ends a process that is resumed without one
no_end : (s : ℕ) → s ≡ 0 → (o : Option ProcData) → ends_process s o ≡ false
no_end s zero None = refl
no_end s zero (Some p) = rw zero refl

live_resumed : (settings : Settings) (how : Resumption) (pid : ℕ) (rows : Rows) → how.pass ≡ 0 → Lives rows.processes (resume settings how pid rows).processes
live_resumed settings how pid rows zero = rw (no_end how.pass zero (process_of pid rows.processes)) (live_some (is_numbered pid) (running how.adds) (λ q. refl) (λ q live. refl) rows.processes)

live_detached : (settings : Settings) (pid s : ℕ) (rows : Rows) → s ≡ 0 → Lives rows.processes (detach settings pid s rows).processes
live_detached settings pid s rows zero = rw (no_end s zero (process_of pid rows.processes)) (live_some (is_numbered pid) (untraced 0) (λ q. refl) (λ q live. refl) rows.processes)

-- an outcome that may end a process unless the argument is 0
by_signal : (but : Reply → Bool) (rows now : Rows) (arg : ℕ) → but Reply.Done ≡ not (arg == 0) → (arg ≡ 0 → Lives rows.processes now.processes) → Fair but rows (answers Reply.Done now)
by_signal but rows now arg is kept = grind (arith, nat_tests, cases_Bool (arg == 0), done but rows now Reply.Done, excepted but rows now Reply.Done, is, kept)

-- requests that change some processes, and keep each live one
changed : (but : Reply → Bool) (rows : Rows) (pid : ℕ) (f : ProcData → ProcData) → ((q : ProcData) → (f q).pid ≡ q.pid) → ((q : ProcData) → is_live q ≡ true → is_live (f q) ≡ true) → Fair but rows (answers Reply.Done (change_process pid f rows))
changed but rows pid f same stays = done but rows _ Reply.Done refl refl (live_some (is_numbered pid) f same stays rows.processes)

does_fair : (settings : Settings) (c t : ℕ) (r : Request) (arg tid : ℕ) (p : ProcData) (rows : Rows) → Fair (may_end (Step.Ptrace c r t arg)) rows (does settings r arg tid p rows)
does_fair settings c t Request.TraceMe arg tid p rows = left _ rows _ refl
does_fair settings c t Request.Attach arg tid p rows = left _ rows _ refl
does_fair settings c t Request.Continue arg tid p rows = by_signal _ rows _ arg refl (live_resumed settings (record { adds = no_events; stepping = Stepping.Nobody; pass = arg }) p.pid rows)
does_fair settings c t Request.Step arg tid p rows = by_signal _ rows _ arg refl (live_resumed settings (record { adds = no_events; stepping = Stepping.Only tid; pass = arg }) p.pid rows)
does_fair settings c t Request.Suspend arg tid p rows = done _ rows _ Reply.Done refl refl (all_live rows.processes)
does_fair settings c t Request.Resume arg tid p rows = done _ rows _ Reply.Done refl refl (all_live rows.processes)
does_fair settings c t Request.Detach arg tid p rows = by_signal _ rows _ arg refl (live_detached settings p.pid arg rows)
does_fair settings c t Request.Kill arg tid p rows = excepted _ rows _ Reply.Done refl refl refl
does_fair settings c t Request.SetEventMask arg tid p rows = changed _ rows p.pid (λ q. record q { mask = record { 0 = arg } }) (λ q. refl) (λ q live. live)
does_fair settings c t Request.GetEventMask arg tid p rows = left _ rows _ refl
does_fair settings c t Request.LwpInfo arg tid p rows = by_option (info p tid rows) (λ o. Fair (may_end (Step.Ptrace c Request.LwpInfo t arg)) rows (shows_info o rows)) (left _ rows _ refl) (λ i. left _ rows _ refl)
does_fair settings c t Request.GetNumLwps arg tid p rows = left _ rows _ refl
does_fair settings c t Request.GetLwpList arg tid p rows = left _ rows _ refl
does_fair settings c t Request.ToSce arg tid p rows = by_signal _ rows _ arg refl (live_resumed settings (record { adds = PTRACE_SCE; stepping = Stepping.Nobody; pass = arg }) p.pid rows)
does_fair settings c t Request.ToScx arg tid p rows = by_signal _ rows _ arg refl (live_resumed settings (record { adds = PTRACE_SCX; stepping = Stepping.Nobody; pass = arg }) p.pid rows)
does_fair settings c t Request.Syscall arg tid p rows = by_signal _ rows _ arg refl (live_resumed settings (record { adds = mask_with PTRACE_SCE PTRACE_SCX; stepping = Stepping.Nobody; pass = arg }) p.pid rows)
does_fair settings c t Request.FollowFork arg tid p rows = changed _ rows p.pid (λ q. record q { mask = switched PTRACE_FORK arg q.mask }) (λ q. refl) (λ q live. live)
does_fair settings c t Request.LwpEvents arg tid p rows = changed _ rows p.pid (λ q. record q { mask = switched PTRACE_LWP arg q.mask }) (λ q. refl) (λ q live. live)

module _ (settings : Settings) (caller : ProcData) (target arg : ℕ) (rows : Rows) where
  abbrev FairRequest : Request → Outcome → Type 0
  FairRequest r o = Fair (may_end (Step.Ptrace caller.pid r target arg)) rows o

  trace_me_fair : FairRequest Request.TraceMe (trace_me caller rows)
  trace_me_fair = choose (is_some caller.tracer) _ _ (FairRequest Request.TraceMe) (left _ rows _ refl) (choose (caller.parent == 1) _ _ (FairRequest Request.TraceMe) (left _ rows _ refl)
      (choose (closes_chain caller.pid caller.parent rows) _ _ (FairRequest Request.TraceMe) (left _ rows _ refl) (changed _ rows caller.pid (traced_by caller.parent) (λ q. refl) (λ q live. live))))

  stopped_first : (pid tracer : ℕ) (o : Option LwpData) → Lives rows.processes (stop_first pid o (change_process pid (traced_by tracer) rows)).processes
  stopped_first pid tracer None = live_some (is_numbered pid) (traced_by tracer) (λ q. refl) (λ q live. live) rows.processes
  stopped_first pid tracer (Some l) = live_then (live_some (is_numbered pid) (traced_by tracer) (λ q. refl) (λ q live. live) rows.processes) (live_stop pid l.tid (plain SIGSTOP) (change_process pid (traced_by tracer) rows))

  attach_fair : (p : ProcData) → FairRequest Request.Attach (attach caller p rows)
  attach_fair p = choose (p.pid == caller.pid) _ _ (FairRequest Request.Attach) (left _ rows _ refl) (choose (is_some p.tracer) _ _ (FairRequest Request.Attach) (left _ rows _ refl)
      (choose (closes_chain p.pid caller.pid rows) _ _ (FairRequest Request.Attach) (left _ rows _ refl) (done _ rows _ Reply.Done refl refl (stopped_first p.pid caller.pid (first_lwp p.pid rows.lwps)))))

  commands_fair : (r : Request) (p : ProcData) → FairRequest r (commands settings caller r target arg p rows)
  commands_fair r p = choose (not (is_some p.tracer)) _ _ (FairRequest r) (left _ rows _ refl) (choose (not (traces caller.pid p)) _ _ (FairRequest r) (left _ rows _ refl)
      (by_option (reported_stop p.state) (λ o. FairRequest r (commands_stopped settings r target arg p rows o)) (left _ rows _ refl)
      (λ tid. choose (bad_argument r arg) _ _ (FairRequest r) (left _ rows _ refl) (does_fair settings caller.pid target r arg _ p rows))))

  about_live : (r : Request) (p : ProcData) → FairRequest r (if is_attach r then attach caller p rows else commands settings caller r target arg p rows)
  about_live Request.Attach p = attach_fair p
  about_live r p = commands_fair r p

  by_request : (u : ℕ) (r : Request) → FairRequest r (ptrace settings u caller r target arg rows)
  by_request u Request.TraceMe = trace_me_fair
  by_request u r = by_option (target_of u target rows) (λ o. FairRequest r (about settings caller r target arg o rows)) (left _ rows _ refl)
      (λ p. choose (not (is_live p)) _ _ (FairRequest r) (left _ rows _ refl) (about_live r p))

pub ptrace_fair : (settings : Settings) (u : ℕ) (caller : ProcData) (r : Request) (target arg : ℕ) (rows : Rows) → Fair (may_end (Step.Ptrace caller.pid r target arg)) rows (ptrace settings u caller r target arg rows)
ptrace_fair settings u caller r target arg rows = by_request settings caller target arg rows u r

-- The other calls

abbrev pub never : Reply → Bool
never r = false

pub spawn_fair : (u : ℕ) (rows : Rows) (o : Option Numbers) → Fair never rows (spawn_with u rows o)
spawn_fair u rows None = left never rows (Reply.Errno EAGAIN) refl
spawn_fair u rows (Some new) = done never rows _ _ refl refl (live_placed (spawned new.pid u) refl rows.processes)

pub sigaction_fair : (p : ProcData) (s : ℕ) (d : Disposition) (rows : Rows) → Fair never rows (sigaction p s d rows)
sigaction_fair p s d rows = grind (arith, nat_tests, choose, left never rows (Reply.Errno EINVAL) refl, done, live_then (live_some (is_numbered p.pid) (λ q. record q { dispositions = set_disposition q.dispositions s d }) (λ q. refl) (λ q live. live) rows.processes) (live_some (is_numbered p.pid) settled_process (λ p'. refl) (λ p' live. live) _), live_some)

all_posted : (settings : Settings) (s : ℕ) → (s == 9) ≡ false → (ps : List ProcData) (rows : Rows) → Lives rows.processes (post_all settings s ps rows).processes
all_posted settings s mild [] rows = all_live rows.processes
all_posted settings s mild (p ∷ ps) rows = live_then (grind (arith, nat_tests, all_live, choose, live_posted)) (all_posted settings s mild ps (post_if_live settings s (process_of p.pid rows.processes) rows))

reached_fair : (settings : Settings) (s : ℕ) (ps : List ProcData) (rows : Rows) → Fair (λ r. s == 9) rows (reached settings s ps rows)
reached_fair settings s [] rows = left (λ r. s == 9) rows (Reply.Errno ESRCH) refl
reached_fair settings s (p ∷ ps) rows = record { same = λ is. absurd (true≢false (sym is)); plenty = refl; lives = λ mild. all_posted settings s mild (p ∷ ps) rows }

pub kill_fair : (settings : Settings) (u caller : ℕ) (which : ℤ) (s : ℕ) (rows : Rows) → Fair (λ r. s == 9) rows (kill settings u caller which s rows)
kill_fair settings u caller which s rows = choose (not (leb s 31) || not (is_which which)) _ _ (Fair (λ r. s == 9) rows) (left (λ r. s == 9) rows (Reply.Errno EINVAL) refl) (reached_fair settings s (reach u caller which rows) rows)

-- only a zombie goes when it is collected
report_live : (caller : ℕ) (o : Option ProcData) (rows : Rows) → Lives rows.processes (without_report caller o rows).processes
report_live caller None rows = all_live rows.processes
report_live caller (Some p) rows = live_then (live_edit (λ q. if q.pid == p.pid then collected caller q else Some q) (λ q live. grind (arith, nat_tests, live)) rows.processes) (live_notified (told caller p) _)

pub wait_fair : (p : ProcData) (which : ℤ) (options : Options) (rows : Rows) → Fair never rows (wait p which options rows)
wait_fair p which options rows = choose (not (is_which which)) _ _ (Fair never rows) (left never rows (Reply.Errno EINVAL) refl) (grind (arith, nat_tests, left, by_option, done, report_live))

handles_fair : (settings : Settings) (policies : List (List Rule)) (rows now : Rows) (o : Option ProcData) (c : Collected) → Lives rows.processes now.processes → Fair (may_end (Step.Handle 0)) rows (handles settings policies rows now o c)
handles_fair settings policies rows now o c kept = grind (arith, nat_tests, left, done, by_option, excepted)

pub handle_fair : (settings : Settings) (policies : List (List Rule)) (caller : ℕ) (rows : Rows) → Fair (may_end (Step.Handle caller)) rows (handled_by settings policies caller rows)
handle_fair settings policies caller rows = handles_fair settings policies rows (rows_after caller (negsuc 0) no_options rows) (reported caller (negsuc 0) no_options rows) (collect caller (negsuc 0) no_options rows) (report_live caller (reported caller (negsuc 0) no_options rows) rows)

-- Hosts

pub record FairStep (s : PlainStep) (m : Machine) (a : After) : Type 0 where
  pub same : sound m ≡ true → keeps a.reply ≡ true → a.machine ≡ m
  pub plenty : is_memory a.reply ≡ false
  pub lives : may_end s a.reply ≡ false → Lives m.rows.processes a.machine.rows.processes

pub hosted : (s : PlainStep) (m : Machine) (o : Outcome) → Fair (may_end s) m.rows o → FairStep s m (after m o)
hosted s m o fair = record {
  same = λ is refused. ap (λ rows. (after m (answers o.reply rows)).machine) (fair.same refused) ∙ answers_same m o.reply is;
  plenty = fair.plenty;
  lives = fair.lives;
}

pub install_fair : (u caller : ℕ) (p : ProcData) (policy : List Rule) (m : Machine) → FairStep (Step.Install caller policy) m (install u p policy m)
install_fair u caller p policy m = choose (leb 64 (length (installed_by u m))) _ _ (FairStep (Step.Install caller policy) m) (hosted _ m (refuses EAGAIN m.rows) (left never m.rows (Reply.Errno EAGAIN) refl))
    (record { same = λ is refused. absurd (true≢false (sym refused)); plenty = refl; lives = λ no. all_live m.rows.processes })
