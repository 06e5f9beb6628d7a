-- The turn of an LWP, on all rows and on a user's.
use Rattle.requests.proofs.CommonNames.{◌≡◌, ℕ, ◌*◌, [], ◌∷◌, Bool, false, ◌==◌, ◌&&◌, ◌||◌, not, leb, if◌then◌else◌, Option, Some, None, is_some, IfSome, refl, sym, ap, ◌∙◌, true≢false, subst}
use Rattle.requests.proofs.CommonNames.{arith, nat_tests, rules, pid_owner, tid_owner, Call, asks, entry_flags, PTRACE_FORK, PTRACE_LWP, without, bit, SIGTRAP, is_signal, after_exec, maskable}
use Rattle.requests.proofs.CommonNames.{disposition_of, default_action, Action, Disposition, ProcData, Job, LwpData, Mode, User, InCall, VforkWait, born, is_run, process_of, Rows, seen_lwp, add_lwp}
use Rattle.requests.proofs.CommonNames.{add_process, Settings, released, StopInfo, Act, Reply, stops_with, stops_or, trap, Numbers, room_for_lwp, room_for_process, in_mode, exit_stop, forked, child_stop}
use Rattle.requests.proofs.CommonNames.{with_child, forks, exec_rows, makes_lwp, exits_lwp, leaves, due_at_birth, waits, due_stop, next_signal, without_signal, plain, job_stops, takes_by_default}
use Rattle.requests.proofs.CommonNames.{takes_untraced, acts, signal_or_act, due_or_more, turn_by, turn_seen, turn, GoodProc, GoodLwp, LiveRow, Sim, named, process_same, at_number, each_same, choose}
use Rattle.requests.proofs.CommonNames.{run_quiet, waited_for, kin_of, branch_rows, process_same_after, lwp_same_after, lwp_removed_same, lwp_added_same, pid_in_block, tid_in_block, Due, option_map}
use Rattle.trace_rows.proofs.IsolationOfSignals.{settle_same, notified_same}
use Rattle.trace_rows.proofs.IsolationOfEnds.{end_same, released_kin, released_foreign, post_same, stop_same}
use Rattle.requests.proofs.RoomForProcess.{LwpRoom, ProcessRoom, lwp_room, process_room}
use Rattle.requests.proofs.IsolationOfNewRows.{Same, answered, branch, seen_lwp_same, seen_lwp_some, lwp_count_same, room_for_lwp_same, room_for_process_same, born_same}

-- an LWP of u, and its process, in the rows at the turn's beginning
pub record Turning (u : ℕ) (c : Rows) (p : ProcData) (l : LwpData) : Type 0 where
  pub good : GoodProc p
  pub mine : p.uid ≡ u
  pub well : GoodLwp l
  pub here : l.pid ≡ p.pid
  pub in_owners_block : LiveRow (process_of p.pid c.processes)

pub own_pid : {u : ℕ} {c : Rows} {p : ProcData} {l : LwpData} → Turning u c p l → pid_owner p.pid ≡ u
own_pid t = t.good.block ∙ t.mine

pub own_tid : {u : ℕ} {c : Rows} {p : ProcData} {l : LwpData} → Turning u c p l → tid_owner l.tid ≡ u
own_tid t = t.well.block ∙ ap pid_owner t.here ∙ own_pid t

stops_with_same : {u : ℕ} {start c v : Rows} → Sim u start c v → (shown : StopInfo) (p : ProcData) (l : LwpData) → pid_owner p.pid ≡ u → tid_owner l.tid ≡ u → Same u start (stops_with shown p l c) (stops_with shown p l v)
stops_with_same s shown p l here tid = answered (stop_same s p.pid l.tid shown here tid) _

stops_or_same : {u : ℕ} {start c v : Rows} → Sim u start c v → (o : Option StopInfo) (r : Reply) (p : ProcData) (l : LwpData) → pid_owner p.pid ≡ u → tid_owner l.tid ≡ u → Same u start (stops_or o r p l c) (stops_or o r p l v)
stops_or_same s o r p l here tid = search (rules, answered, stops_with_same)

in_mode_same : {u : ℕ} {start c v : Rows} → Sim u start c v → (mode : Mode) (tid : ℕ) → tid_owner tid ≡ u → IfSome (waited_for mode) (λ c. pid_owner c ≡ u) → Sim u start (in_mode mode tid c) (in_mode mode tid v)
in_mode_same {u} s mode tid here w = lwp_same_after s tid here _ (λ l well is. (refl, record { block = well.block; waits = subst (λ x. IfSome (waited_for mode) (λ c. pid_owner c ≡ x)) (sym is) w }))

-- The work of calls

forked_good : (followed : Bool) (p : ProcData) (u n : ℕ) → GoodProc p → p.uid ≡ u → pid_owner n ≡ u → GoodProc (forked followed p n)
forked_good followed p u n good mine here = search (rules, choose)

with_child_same : {u : ℕ} {start c v : Rows} → Sim u start c v → (k : Call) (p : ProcData) (l : LwpData) (new : Numbers) → Turning u c p l → ProcessRoom u c new → Sim u start (with_child k p l new c) (with_child k p l new v)
with_child_same {u} {start} {c} {v} s k p l new t n = branch_rows followed followed refl (λ b. stop_same made new.pid new.tid (child_stop k) pid tid) (λ b. made)
  where
    followed : Bool
    followed = is_some p.tracer && asks p.mask PTRACE_FORK

    pid : pid_owner new.pid ≡ u
    pid = pid_in_block u new.pid s.kept.closed.user n.pid

    tid : tid_owner new.tid ≡ u
    tid = tid_in_block u new.tid s.kept.closed.user n.lwp.tid

    child : LwpData
    child = born new.tid new.pid l.blocked Due.Nothing

    made : Sim u start (add_lwp p.uid child (add_process (forked followed p new.pid) c)) (add_lwp p.uid child (add_process (forked followed p new.pid) v))
    made = subst (λ w. Sim u start (add_lwp w child (add_process (forked followed p new.pid) c)) (add_lwp w child (add_process (forked followed p new.pid) v))) (sym t.mine)
        (born_same s (forked followed p new.pid) child t.mine (forked_good followed p u new.pid t.good t.mine pid) refl n.pid n.free (record { block = tid ∙ sym pid; waits = tt }) refl n.lwp.tid)

forks_same : {u : ℕ} {start c v : Rows} → Sim u start c v → (k : Call) (mode : ℕ → Mode) (p : ProcData) (l : LwpData) → ((n : ℕ) → pid_owner n ≡ u → IfSome (waited_for (mode n)) (λ c. pid_owner c ≡ u)) → Turning u c p l → (o : Option Numbers) → IfSome o (ProcessRoom u c) → Same u start (forks k mode p l c o) (forks k mode p l v o)
forks_same s k mode p l waits_own t None g = answered s _
forks_same {u} s k mode p l waits_own t (Some new) g = stops_or_same (in_mode_same (with_child_same s k p l new t g) (mode new.pid) l.tid (own_tid t) (waits_own new.pid (pid_in_block u new.pid s.kept.closed.user g.pid))) (exit_stop p k new.pid) (Reply.New new.pid new.tid) p l (own_pid t) (own_tid t)

fork_same : {u : ℕ} {start c v : Rows} → Sim u start c v → (k : Call) (mode : ℕ → Mode) (p : ProcData) (l : LwpData) → ((n : ℕ) → pid_owner n ≡ u → IfSome (waited_for (mode n)) (λ c. pid_owner c ≡ u)) → Turning u c p l → Same u start (forks k mode p l c (room_for_process p.uid c)) (forks k mode p l v (room_for_process p.uid v))
fork_same {u} {start} {c} {v} s k mode p l waits_own t = search (rules, room_for_process_same s, forks_same s k mode p l waits_own t (room_for_process p.uid c) (subst (λ w. IfSome (room_for_process w c) (ProcessRoom u c)) (sym t.mine) (process_room u c s.kept.closed.pid_cursor s.kept.closed.tid_cursor)))

exec_rows_same : {u : ℕ} {start c v : Rows} → Sim u start c v → (p : ProcData) (l : LwpData) → pid_owner p.pid ≡ u → Sim u start (exec_rows p l c) (exec_rows p l v)
exec_rows_same {u} s p l here = settle_same (each_same s
    (λ q. Some (if q.pid == p.pid then record q { dispositions = after_exec q.dispositions } else q))
    (λ q k. if q.pid == p.pid then (if k.tid == l.tid then Some (record k { mode = User }) else None) else Some (released (λ n. n == p.pid) q k)) (grind (arith, nat_tests, kin_of, choose, released_kin, released_foreign))) p.pid here

makes_lwp_same : {u : ℕ} {start c v : Rows} → Sim u start c v → (p : ProcData) (l : LwpData) → Turning u c p l → (o : Option ℕ) → IfSome o (LwpRoom u c) → Same u start (makes_lwp p l c o) (makes_lwp p l v o)
makes_lwp_same s p l t None g = answered s _
makes_lwp_same {u} {start} {c} {v} s p l t (Some tid) g = stops_or_same (in_mode_same added User l.tid (own_tid t) tt) (exit_stop p Call.ThrNew 0) (Reply.New p.pid tid) p l (own_pid t) (own_tid t)
  where
    new : LwpData
    new = born tid p.pid l.blocked (due_at_birth p)

    added : Sim u start (add_lwp p.uid new c) (add_lwp p.uid new v)
    added = subst (λ w. Sim u start (add_lwp w new c) (add_lwp w new v)) (sym t.mine)
        (lwp_added_same s new (own_pid t) (record { block = tid_in_block u tid s.kept.closed.user g.tid ∙ sym (own_pid t); waits = tt }) t.in_owners_block g.tid)

exits_lwp_same : {u : ℕ} {start c v : Rows} → Sim u start c v → (settings : Settings) (p : ProcData) (l : LwpData) → Turning u c p l → Same u start (exits_lwp settings p l c) (exits_lwp settings p l v)
exits_lwp_same s settings p l t =
    branch _ _ (ap (λ n. leb n 1) (lwp_count_same s p.pid (own_pid t))) (λ b. (answered (end_same s settings p.pid 0 (own_pid t)) _)) (λ b.
    branch (is_some p.tracer && asks p.mask PTRACE_LWP) _ refl (λ d. stops_with_same s _ p l (own_pid t) (own_tid t)) (λ d. answered (lwp_removed_same s l.tid (own_tid t)) _))

leaves_same : {u : ℕ} {start c v : Rows} → Sim u start c v → (settings : Settings) (k : Call) (p : ProcData) (l : LwpData) → Turning u c p l → Same u start (leaves settings k p l c) (leaves settings k p l v)
leaves_same s settings Call.Fork p l t = fork_same s Call.Fork (λ child. User) p l (λ n here. tt) t
leaves_same s settings Call.Vfork p l t = fork_same s Call.Vfork (λ child. VforkWait child) p l (λ n here. here) t
leaves_same s settings Call.Exec p l t = stops_or_same (exec_rows_same s p l (own_pid t)) (exit_stop p Call.Exec 0) Reply.Done p l (own_pid t) (own_tid t)
leaves_same {u} {start} {c} {v} s settings Call.ThrNew p l t = search (rules, room_for_lwp_same s, makes_lwp_same s p l t (room_for_lwp p.uid c) (subst (λ w. IfSome (room_for_lwp w c) (LwpRoom u c)) (sym t.mine) (lwp_room u c s.kept.closed.tid_cursor)))
leaves_same s settings Call.ThrExit p l t = exits_lwp_same s settings p l t
leaves_same s settings (Call.Exit status) p l t = answered (end_same s settings p.pid (status * 256) (own_pid t)) _
leaves_same s settings (Call.Other code) p l t = stops_or_same (in_mode_same s User l.tid (own_tid t) tt) (exit_stop p (Call.Other code) 0) Reply.Done p l (own_pid t) (own_tid t)

-- Signals at a turn

without_signal_same : {u : ℕ} {start c v : Rows} → Sim u start c v → (sig : ℕ) (p : ProcData) (l : LwpData) → pid_owner p.pid ≡ u → tid_owner l.tid ≡ u → Sim u start (without_signal sig p l c) (without_signal sig p l v)
without_signal_same s sig p l here tid = grind (arith, nat_tests, branch_rows, lwp_same_after s l.tid tid (λ k. record k { pending = without k.pending (bit sig) }) (λ k well is. (refl, record { block = well.block; waits = well.waits })), process_same_after s p.pid here (λ q. record q { pending = without q.pending (bit sig) }) (λ q good is e. (refl, refl, record { user = good.user; block = good.block; tracer = good.tracer; parent = good.parent; reporting = good.reporting; collector = good.collector }, λ live. live)))

job_stops_same : {u : ℕ} {start c v : Rows} → Sim u start c v → (sig : ℕ) (p : ProcData) (l : LwpData) → GoodProc p → p.uid ≡ u → Same u start (job_stops sig p l c) (job_stops sig p l v)
job_stops_same s sig p l good mine = answered (notified_same (process_same_after s p.pid (good.block ∙ mine) (λ q. record q { state = Job sig false; continued = false }) (λ q g is e. (refl, refl, record { user = g.user; block = g.block; tracer = g.tracer; parent = g.parent; reporting = tt; collector = λ dead. absurd (true≢false dead) }, λ live. refl))) (p.parent ∷ []) (λ ne. good.parent ne ∙ mine, tt)) _

by_default_same : {u : ℕ} {start c v : Rows} → Sim u start c v → (settings : Settings) (sig : ℕ) (a : Action) (p : ProcData) (l : LwpData) → GoodProc p → p.uid ≡ u → Same u start (takes_by_default settings sig a p l c) (takes_by_default settings sig a p l v)
by_default_same s settings sig Action.End p l good mine = answered (end_same s settings p.pid sig (good.block ∙ mine)) _
by_default_same s settings sig Action.Stop p l good mine = job_stops_same s sig p l good mine
by_default_same s settings sig Action.Discard p l good mine = answered s _

untraced_same : {u : ℕ} {start c v : Rows} → Sim u start c v → (settings : Settings) (sig : ℕ) (d : Disposition) (p : ProcData) (l : LwpData) → GoodProc p → p.uid ≡ u → Same u start (takes_untraced settings sig d p l c) (takes_untraced settings sig d p l v)
untraced_same s settings sig Disposition.Default p l good mine = by_default_same s settings sig (default_action sig) p l good mine
untraced_same s settings sig d p l good mine = answered s _

-- Acts

acts_same : {u : ℕ} {start c v : Rows} → Sim u start c v → (settings : Settings) (a : Act) (m : Mode) (p : ProcData) (l : LwpData) → Turning u c p l → Same u start (acts settings a m p l c) (acts settings a m p l v)
acts_same s settings Act.Compute User p l t = branch l.stepping _ refl (λ b. stops_with_same (lwp_same_after s l.tid (own_tid t) (λ k. record k { stepping = false }) (λ k well is. (refl, record { block = well.block; waits = well.waits }))) (plain SIGTRAP) p l (own_pid t) (own_tid t)) (λ b. answered s _)
acts_same s settings (Act.Raise n) User p l t = branch (not (is_signal n)) _ refl (λ b. answered s _) (λ b. answered (post_same s settings n (Some l.tid) p.pid (own_pid t)) _)
acts_same s settings (Act.Block set) User p l t = answered (lwp_same_after s l.tid (own_tid t) (λ k. record k { blocked = maskable set }) (λ k well is. (refl, record { block = well.block; waits = well.waits }))) _
acts_same s settings (Act.Enter k) User p l t = stops_or_same (lwp_same_after s l.tid (own_tid t) (λ x. record x { mode = InCall k }) (λ k well is. (refl, record { block = well.block; waits = tt }))) (option_map (λ flags. trap flags 0 k) (entry_flags p.mask)) Reply.Done p l (own_pid t) (own_tid t)
acts_same s settings Act.Leave (InCall k) p l t = leaves_same s settings k p l t
acts_same s settings a m p l t = answered s _

signal_or_act_same : {u : ℕ} {start c v : Rows} → Sim u start c v → (settings : Settings) (a : Act) (p : ProcData) (l : LwpData) → Turning u c p l → (o : Option ℕ) → Same u start (signal_or_act settings a p l c o) (signal_or_act settings a p l v o)
signal_or_act_same s settings a p l t (Some sig) = branch (is_some p.tracer) _ refl (λ b. stops_with_same (without_signal_same s sig p l (own_pid t) (own_tid t)) (plain sig) p l (t.good.block ∙ t.mine) (own_tid t)) (λ b. untraced_same (without_signal_same s sig p l (own_pid t) (own_tid t)) settings sig (disposition_of p.dispositions sig) p l t.good t.mine)
signal_or_act_same s settings a p l t None = acts_same s settings a l.mode p l t

due_or_more_same : {u : ℕ} {start c v : Rows} → Sim u start c v → (settings : Settings) (a : Act) (p : ProcData) (l : LwpData) → Turning u c p l → (o : Option StopInfo) → Same u start (due_or_more settings a p l c o) (due_or_more settings a p l v o)
due_or_more_same s settings a p l t (Some shown) = stops_with_same (lwp_same_after s l.tid (own_tid t) (λ k. record k { due = Due.Nothing }) (λ k well is. (refl, record { block = well.block; waits = well.waits }))) shown p l (own_pid t) (own_tid t)
due_or_more_same s settings a p l t None = signal_or_act_same s settings a p l t (next_signal p l)

turn_by_same : {u : ℕ} {start c v : Rows} → Sim u start c v → (settings : Settings) (a : Act) (l : LwpData) → GoodLwp l → pid_owner l.pid ≡ u → Same u start (turn_by settings a l c (process_of l.pid c.processes)) (turn_by settings a l v (process_of l.pid c.processes))
turn_by_same {u} {start} {c} {v} s settings a l well mine = at_number c.processes s.kept.closed.processes l.pid (λ o. Same u start (turn_by settings a l c o) (turn_by settings a l v o)) (answered s _) (λ p is good same.
    branch (not (is_run p) || l.suspended || waits l.mode) _ refl (λ b. answered s _) (λ b. due_or_more_same s settings a p l (grind (arith, nat_tests, named, run_quiet, b)) (due_stop l.due)))

pub turn_same : {u : ℕ} {start c v : Rows} → Sim u start c v → (settings : Settings) (tid : ℕ) (a : Act) → Same u start (turn settings u tid a c) (turn settings u tid a v)
turn_same {u} {start} {c} {v} s settings tid a = subst (λ o. Same u start (turn settings u tid a c) (turn_seen settings a v o)) (seen_lwp_same s tid) (by_lwp (seen_lwp u tid c) (seen_lwp_some s tid))
  where
    by_lwp : (o : Option LwpData) → IfSome o (λ l. GoodLwp l × (pid_owner l.pid ≡ u) × (l.tid ≡ tid)) → Same u start (turn_seen settings a c o) (turn_seen settings a v o)
    by_lwp None g = answered s _
    by_lwp (Some l) g = subst (λ o. Same u start (turn_by settings a l c (process_of l.pid c.processes)) (turn_by settings a l v o)) (process_same s l.pid g.1) (turn_by_same s settings a l g.0 g.1)
