-- Every step, on all rows and on a user's.
use Rattle.requests.proofs.CommonNames.{is_some, traces, reported_stop}
use Rattle.requests.proofs.CommonNames.{rules, nat_tests, ◌≡◌, ℕ, ℤ, pos, negsuc, List, [], ◌∷◌, map, take, true, false, ◌==◌, ◌&&◌, not, leb, if◌then◌else◌, Option, Some, None, IfSome, refl, sym, ap}
use Rattle.requests.proofs.CommonNames.{◌∙◌, eqb-true, subst, eq-eqb, arith, pid_owner, tid_owner, EventMask, PTRACE_SCE, PTRACE_SCX, PTRACE_FORK, PTRACE_LWP, mask_with, SIGKILL, set_disposition}
use Rattle.requests.proofs.CommonNames.{Disposition, ProcData, State, Trace, LwpData, lwp_of, first_lwp, is_live, process_of, of_user, named_by, Rows, visible_process, find_seen, Settings, Options}
use Rattle.requests.proofs.CommonNames.{Collected, StatusKind, reported, collect, rows_after, info, lwp_info, Rule, Decision, Request, Numbers, room_for_process, spawn_with, spawn, list, is_refused}
use Rattle.requests.proofs.CommonNames.{sigaction, collect_reply, wait, is_which, reach, post_if_live, post_all, reached, kill, stop_first, attach, bad_argument, set_mask}
use Rattle.requests.proofs.CommonNames.{resumes, signal_alone, no_events, Stepping, switched, shows_info, does, commands_stopped, commands, is_attach, about, target_of, is_trace_me, ptrace, decided, view_of, done, handles_stop}
use Rattle.requests.proofs.CommonNames.{handles_status, handles, no_options, GoodProc, GoodLwp, All-where, Sim, own, row_query, rows_query, lwp_query, lwps_query, process_same, If_more, branch_rows}
use Rattle.requests.proofs.CommonNames.{process_same_after, lwp_same_after, and_left, and_right, pid_in_block, tid_in_block, AllByRecursion, Reply, option_map}
use Rattle.lwp_table.specs.Lwps.{lwps_of}
use Rattle.proc_table.specs.Processes.{is_this, reporting}
use Rattle.trace_rows.proofs.FilteredLists.{find_some}
use Rattle.trace_rows.proofs.IsolationOfSignals.{settle_same, own_some}
use Rattle.trace_rows.proofs.IsolationOfEnds.{meets_same, post_same, stop_same, resume_same, detach_same}
use Rattle.wait4.proofs.IsolationOfReports.{collect_same, reported_same, reported_some, rows_after_same}
use Rattle.requests.proofs.RoomForProcess.{ProcessRoom, process_room}
use Rattle.requests.proofs.IsolationOfNewRows.{Same, answered, branch, seen_lwp_same, seen_lwp_some, lwp_count_same, room_for_process_same, born_same}

pub seen_same : {u : ℕ} {start c v : Rows} → Sim u start c v → (n : ℕ) → visible_process u n c ≡ visible_process u n v
seen_same {u} s n = row_query s (λ p. (p.pid == n) && (p.uid == u)) (λ p good is. eqb-true p.uid u (and_right (p.pid == n) (p.uid == u) is))

pub seen_some : {u : ℕ} {start c v : Rows} → Sim u start c v → (n : ℕ) → IfSome (visible_process u n c) (λ p. GoodProc p × (p.uid ≡ u) × (p.pid ≡ n))
seen_some {u} {start} {c} s n = If_more _ (λ p. GoodProc p × (p.uid ≡ u) × (p.pid ≡ n)) (λ p g. (g.0, eqb-true p.uid u (and_right (p.pid == n) (p.uid == u) g.1), eqb-true p.pid n (and_left (p.pid == n) (p.uid == u) g.1))) (visible_process u n c) (find_some (λ p. (p.pid == n) && (p.uid == u)) GoodProc c.processes s.kept.closed.processes)

-- Spawn, list, sigaction and wait4

spawn_with_same : {u : ℕ} {start c v : Rows} → Sim u start c v → (o : Option Numbers) → IfSome o (ProcessRoom u c) → Same u start (spawn_with u c o) (spawn_with u v o)
spawn_with_same s o g = grind (arith, nat_tests, answered, born_same, pid_in_block, tid_in_block)

pub spawn_same : {u : ℕ} {start c v : Rows} → Sim u start c v → Same u start (spawn u c) (spawn u v)
spawn_same {u} {start} {c} {v} s = subst (λ o. Same u start (spawn u c) (spawn_with u v o)) (room_for_process_same s) (spawn_with_same s (room_for_process u c) (process_room u c s.kept.closed.pid_cursor s.kept.closed.tid_cursor))

pub of_user_same : {u : ℕ} {start c v : Rows} → Sim u start c v → of_user u c.processes ≡ of_user u v.processes
of_user_same {u} s = rows_query s (own u) (λ p good is. eqb-true p.uid u is)

pub list_same : {u : ℕ} {start c v : Rows} → Sim u start c v → Same u start (list u c) (list u v)
list_same s = search (rules, of_user_same s)

pub sigaction_same : {u : ℕ} {start c v : Rows} → Sim u start c v → (p : ProcData) (sig : ℕ) (d : Disposition) → pid_owner p.pid ≡ u → Same u start (sigaction p sig d c) (sigaction p sig d v)
sigaction_same s p sig d here = branch (is_refused sig d) _ refl (λ b. answered s _) (λ b. answered (settle_same (process_same_after s p.pid here (λ q. record q { dispositions = set_disposition q.dispositions sig d }) (λ q good is e. (refl, refl, record { user = good.user; block = good.block; tracer = good.tracer; parent = good.parent; reporting = good.reporting; collector = good.collector }, λ live. live))) p.pid here) _)

pub wait_same : {u : ℕ} {start c v : Rows} → Sim u start c v → (p : ProcData) (which : ℤ) (options : Options) → pid_owner p.pid ≡ u → Same u start (wait p which options c) (wait p which options v)
wait_same s p which options here = branch (not (is_which which)) _ refl (λ b. answered s _) (λ b. record { rows = rows_after_same s p.pid which options here; reply = ap collect_reply (collect_same s p.pid which options here) })

-- Kill

if_live_same : {u : ℕ} {start c v : Rows} → Sim u start c v → (settings : Settings) (sig : ℕ) (o : Option ProcData) → IfSome o (λ p. GoodProc p × (p.uid ≡ u)) → Sim u start (post_if_live settings sig o c) (post_if_live settings sig o v)
if_live_same s settings sig None g = s
if_live_same s settings sig (Some p) g = branch_rows (is_live p && not (sig == 0)) _ refl (λ b. post_same s settings sig None p.pid (g.0.block ∙ g.1)) (λ b. s)

post_all_same : {u : ℕ} {start : Rows} (settings : Settings) (sig : ℕ) (ps : List ProcData) → AllByRecursion (λ p. pid_owner p.pid ≡ u) ps → (c v : Rows) → Sim u start c v → Sim u start (post_all settings sig ps c) (post_all settings sig ps v)
post_all_same settings sig [] all c v s = s
post_all_same {u} {start} settings sig (p ∷ ps) all c v s = post_all_same settings sig ps all.1 _ _
    (subst (λ o. Sim u start (post_if_live settings sig (process_of p.pid c.processes) c) (post_if_live settings sig o v)) (process_same s p.pid all.0) (if_live_same s settings sig (process_of p.pid c.processes) (own_some s p.pid all.0)))

reached_same : {u : ℕ} {start c v : Rows} → Sim u start c v → (settings : Settings) (sig : ℕ) (ps : List ProcData) → AllByRecursion (λ p. pid_owner p.pid ≡ u) ps → Same u start (reached settings sig ps c) (reached settings sig ps v)
reached_same s settings sig [] all = answered s _
reached_same {u} {start} {c} {v} s settings sig (p ∷ ps) all = answered (post_all_same settings sig (p ∷ ps) all c v s) _

reach_same : {u : ℕ} {start c v : Rows} → Sim u start c v → (caller : ℕ) (which : ℤ) → reach u caller which c ≡ reach u caller which v
reach_same s caller which = grind (arith, nat_tests, of_user_same)

reach_own : (u caller : ℕ) (which : ℤ) (c : Rows) → AllByRecursion GoodProc c.processes → AllByRecursion (λ p. pid_owner p.pid ≡ u) (reach u caller which c)
reach_own u caller (pos n) c all = All-where (λ p. p.pid == n) (λ p. pid_owner p.pid ≡ u) (λ p. pid_owner p.pid ≡ u) (λ p g is. g) (of_user u c.processes) (All-where (own u) GoodProc (λ p. pid_owner p.pid ≡ u) (λ p good is. good.block ∙ eqb-true p.uid u is) c.processes all)
reach_own u caller (negsuc n) c all = All-where (λ p. not (p.pid == caller)) (λ p. pid_owner p.pid ≡ u) (λ p. pid_owner p.pid ≡ u) (λ p g is. g) (of_user u c.processes) (All-where (own u) GoodProc (λ p. pid_owner p.pid ≡ u) (λ p good is. good.block ∙ eqb-true p.uid u is) c.processes all)

pub kill_same : {u : ℕ} {start c v : Rows} → Sim u start c v → (settings : Settings) (caller : ℕ) (which : ℤ) (sig : ℕ) → Same u start (kill settings u caller which sig c) (kill settings u caller which sig v)
kill_same {u} {start} {c} {v} s settings caller which sig = grind (arith, nat_tests, branch, answered, reach_same s caller which, reached_same s settings sig (reach u caller which c) (reach_own u caller which c s.kept.closed.processes))

-- Requests

first_some : {u : ℕ} {start c v : Rows} → Sim u start c v → (n : ℕ) → pid_owner n ≡ u → IfSome (first_lwp n c.lwps) (λ l. tid_owner l.tid ≡ u)
first_some {u} {start} {c} s n here = If_more _ (λ l. tid_owner l.tid ≡ u) (λ l g. g.0.block ∙ ap pid_owner (eqb-true l.pid n g.1) ∙ here) (first_lwp n c.lwps) (find_some (λ l. l.pid == n) GoodLwp c.lwps s.kept.closed.lwps)

stop_first_same : {u : ℕ} {start c v : Rows} → Sim u start c v → (n : ℕ) → pid_owner n ≡ u → (o : Option LwpData) → IfSome o (λ l. tid_owner l.tid ≡ u) → Sim u start (stop_first n o c) (stop_first n o v)
stop_first_same s n here o g = grind (arith, nat_tests, stop_same)

pub attach_same : {u : ℕ} {start c v : Rows} → Sim u start c v → (me p : ProcData) → pid_owner me.pid ≡ u → pid_owner p.pid ≡ u → Same u start (attach me p c) (attach me p v)
attach_same s me p by here = grind (arith, nat_tests, branch, answered, meets_same, lwp_query, eqb-true, stop_first_same, first_some, process_same_after)

set_mask_same : {u : ℕ} {start c v : Rows} → Sim u start c v → (mask : EventMask → EventMask) (n : ℕ) → pid_owner n ≡ u → Sim u start (set_mask mask n c) (set_mask mask n v)
set_mask_same s mask n here = process_same_after s n here (λ p. record p { mask = mask p.mask }) (λ q good is e. (refl, refl, record { user = good.user; block = good.block; tracer = good.tracer; parent = good.parent; reporting = good.reporting; collector = good.collector }, λ live. live))

pub resumes_same : {u : ℕ} {start c v : Rows} → Sim u start c v → (settings : Settings) (adds : EventMask) (stepping : Stepping) (sig : ℕ) (p : ProcData) → pid_owner p.pid ≡ u → Same u start (resumes settings adds stepping sig p c) (resumes settings adds stepping sig p v)
resumes_same s settings adds stepping sig p here = answered (resume_same s settings (record { adds = adds; stepping = stepping; pass = sig }) p.pid here) _

lwps_of_same : {u : ℕ} {start c v : Rows} → Sim u start c v → (n : ℕ) → pid_owner n ≡ u → lwps_of n c.lwps ≡ lwps_of n v.lwps
lwps_of_same s n here = lwps_query s (λ l. l.pid == n) (λ l well is. ap pid_owner (eqb-true l.pid n is) ∙ here)

pub lwp_of_same : {u : ℕ} {start c v : Rows} → Sim u start c v → (tid : ℕ) → tid_owner tid ≡ u → lwp_of tid c.lwps ≡ lwp_of tid v.lwps
lwp_of_same s tid here = lwp_query s (λ l. l.tid == tid) (λ l well is. sym well.block ∙ ap tid_owner (eqb-true l.tid tid is) ∙ here)

does_same : {u : ℕ} {start c v : Rows} → Sim u start c v → (settings : Settings) (r : Request) (arg tid : ℕ) (p : ProcData) → pid_owner p.pid ≡ u → tid_owner tid ≡ u → Same u start (does settings r arg tid p c) (does settings r arg tid p v)
does_same s settings Request.Continue arg tid p here t = resumes_same s settings no_events Stepping.Nobody arg p here
does_same s settings Request.Step arg tid p here t = resumes_same s settings no_events (Stepping.Only tid) arg p here
does_same s settings Request.Suspend arg tid p here t = answered (lwp_same_after s tid t (λ l. record l { suspended = true }) (λ l well is. (refl, record { block = well.block; waits = well.waits }))) _
does_same s settings Request.Resume arg tid p here t = answered (lwp_same_after s tid t (λ l. record l { suspended = false }) (λ l well is. (refl, record { block = well.block; waits = well.waits }))) _
does_same s settings Request.Detach arg tid p here t = answered (detach_same s settings p.pid arg here) _
does_same s settings Request.Kill arg tid p here t = answered (resume_same s settings (signal_alone SIGKILL) p.pid here) _
does_same s settings Request.SetEventMask arg tid p here t = answered (set_mask_same s (λ mask. record { 0 = arg }) p.pid here) _
does_same {u} {start} {c} {v} s settings Request.LwpInfo arg tid p here t = subst (λ o. Same u start (shows_info (info p tid c) c) (shows_info o v)) (ap (λ ls. option_map (lwp_info (is_this tid (reporting p))) (lwp_of tid ls)) (lwps_of_same s p.pid here)) (grind (arith, nat_tests, answered))
does_same s settings Request.GetNumLwps arg tid p here t = record { rows = s; reply = ap Reply.Number (lwp_count_same s p.pid here) }
does_same s settings Request.GetLwpList arg tid p here t = record { rows = s; reply = ap (λ ls. Reply.Lwps (take arg (map (λ l. l.tid) ls))) (lwps_of_same s p.pid here) }
does_same s settings Request.ToSce arg tid p here t = resumes_same s settings PTRACE_SCE Stepping.Nobody arg p here
does_same s settings Request.ToScx arg tid p here t = resumes_same s settings PTRACE_SCX Stepping.Nobody arg p here
does_same s settings Request.Syscall arg tid p here t = resumes_same s settings (mask_with PTRACE_SCE PTRACE_SCX) Stepping.Nobody arg p here
does_same s settings Request.FollowFork arg tid p here t = answered (set_mask_same s (switched PTRACE_FORK arg) p.pid here) _
does_same s settings Request.LwpEvents arg tid p here t = answered (set_mask_same s (switched PTRACE_LWP arg) p.pid here) _
does_same s settings r arg tid p here t = answered s _

commands_stopped_same : {u : ℕ} {start c v : Rows} → Sim u start c v → (settings : Settings) (r : Request) (target arg : ℕ) (p : ProcData) → pid_owner p.pid ≡ u → (leb target 99999 ≡ false → tid_owner target ≡ u) → (o : Option ℕ) → IfSome o (λ t. tid_owner t ≡ u) → Same u start (commands_stopped settings r target arg p c o) (commands_stopped settings r target arg p v o)
commands_stopped_same s settings r target arg p here lwp None g = answered s _
commands_stopped_same {u} s settings r target arg p here lwp (Some tid) g = branch (bad_argument r arg) _ refl (λ b. answered s _) (λ b. does_same s settings r arg (if leb target 99999 then tid else target) p here (grind (arith, nat_tests, g, lwp)))

abbrev pub Target : ℕ → ℕ → ProcData → Type 0
Target u target p = GoodProc p × (p.uid ≡ u) × (leb target 99999 ≡ false → tid_owner target ≡ u)

commands_same : {u : ℕ} {start c v : Rows} → Sim u start c v → (settings : Settings) (me : ProcData) (r : Request) (target arg : ℕ) (p : ProcData) → Target u target p → Same u start (commands settings me r target arg p c) (commands settings me r target arg p v)
commands_same {u} s settings me r target arg p g =
    branch (not (is_some p.tracer)) _ refl (λ b. answered s _) (λ b.
    branch (not (traces me.pid p)) _ refl (λ b. answered s _) (λ b.
    commands_stopped_same s settings r target arg p (g.0.block ∙ g.1) g.2 (reported_stop p.state) (grind (arith, nat_tests))))

about_same : {u : ℕ} {start c v : Rows} → Sim u start c v → (settings : Settings) (me : ProcData) (r : Request) (target arg : ℕ) → pid_owner me.pid ≡ u → (o : Option ProcData) → IfSome o (Target u target) → Same u start (about settings me r target arg o c) (about settings me r target arg o v)
about_same s settings me r target arg by None g = answered s _
about_same s settings me r target arg by (Some p) g =
    branch (not (is_live p)) _ refl (λ b. answered s _) (λ b.
    branch (is_attach r) _ refl (λ b. attach_same s me p by (g.0.block ∙ g.1)) (λ b. commands_same s settings me r target arg p g))

find_facts : {u : ℕ} {start c v : Rows} → Sim u start c v → (target : ℕ) → IfSome (find_seen u target c) (λ n. (pid_owner n ≡ u) × (leb target 99999 ≡ false → tid_owner target ≡ u))
find_facts s target = grind (arith, nat_tests, seen_some s target, seen_lwp_some s target)

target_same : {u : ℕ} {start c v : Rows} → Sim u start c v → (target : ℕ) → target_of u target c ≡ target_of u target v
target_same s target = grind (arith, nat_tests, process_same, find_facts s target, seen_same s target, seen_lwp_same s target)

pub ptrace_same : {u : ℕ} {start c v : Rows} → Sim u start c v → (settings : Settings) (me : ProcData) (r : Request) (target arg : ℕ) → GoodProc me → me.uid ≡ u → Same u start (ptrace settings u me r target arg c) (ptrace settings u me r target arg v)
ptrace_same {u} {start} {c} {v} s settings me r target arg good mine = branch (is_trace_me r) _ refl (λ b. (grind (arith, nat_tests, branch, answered, meets_same, eq-eqb, process_same_after))) (λ b.
    subst (λ o. Same u start (about settings me r target arg (target_of u target c) c) (about settings me r target arg o v)) (target_same s target) (about_same s settings me r target arg (good.block ∙ mine) (target_of u target c) (grind (arith, nat_tests, find_facts s target, own_some s))))

-- Handlers

done_same : {u : ℕ} {start c v : Rows} → Sim u start c v → (settings : Settings) (d : Decision) (p : ProcData) → pid_owner p.pid ≡ u → Sim u start (done settings d p c) (done settings d p v)
done_same s settings (Decision.Continue sig) p here = (resumes_same s settings no_events Stepping.Nobody sig p here).rows
done_same s settings (Decision.Detach sig) p here = detach_same s settings p.pid sig here
done_same s settings Decision.Kill p here = resume_same s settings (signal_alone SIGKILL) p.pid here
done_same s settings d p here = s

handles_stop_same : {u : ℕ} {start c v : Rows} → Sim u start c v → (settings : Settings) (policies : List (List Rule)) (p : ProcData) (tid sig : ℕ) (status : StatusKind) → pid_owner p.pid ≡ u → (o : Option LwpData) → Same u start (handles_stop settings policies p tid sig status c o) (handles_stop settings policies p tid sig status v o)
handles_stop_same s settings policies p tid sig status here None = answered s _
handles_stop_same s settings policies p tid sig status here (Some l) = answered (done_same s settings (decided policies 0 (view_of p tid sig l)).decision p here) _

handles_status_same : {u : ℕ} {start c v : Rows} → Sim u start c v → (settings : Settings) (policies : List (List Rule)) (status : StatusKind) (p : ProcData) → pid_owner p.pid ≡ u → (st : State) → IfSome (named_by st) (λ t. tid_owner t ≡ u) → Same u start (handles_status settings policies status p c st) (handles_status settings policies status p v st)
handles_status_same {u} {start} {c} {v} s settings policies status p here (Trace tid sig told) g = subst (λ o. Same u start (handles_stop settings policies p tid sig status c (lwp_of tid c.lwps)) (handles_stop settings policies p tid sig status v o)) (lwp_of_same s tid g) (handles_stop_same s settings policies p tid sig status here (lwp_of tid c.lwps))
handles_status_same s settings policies status p here st g = answered s _

handles_same : {u : ℕ} {start c v d w : Rows} → Sim u start c v → Sim u start d w → (settings : Settings) (policies : List (List Rule)) (o : Option ProcData) → IfSome o (λ p. GoodProc p × (p.uid ≡ u)) → (k : Collected) → Same u start (handles settings policies c d o k) (handles settings policies v w o k)
handles_same s t settings policies None g (Collected.Got pid status) = answered t _
handles_same {u} s t settings policies (Some p) g (Collected.Got pid status) = handles_status_same t settings policies status p (g.0.block ∙ g.1) p.state (subst (λ x. IfSome (named_by p.state) (λ n. tid_owner n ≡ x)) g.1 g.0.reporting)
handles_same s t settings policies o g k = answered s _

-- the work of a handle, with the policies of its caller
pub handle_same : {u : ℕ} {start c v : Rows} → Sim u start c v → (settings : Settings) (policies : List (List Rule)) (n : ℕ) → pid_owner n ≡ u
    → Same u start (handles settings policies c (rows_after n (negsuc 0) no_options c) (reported n (negsuc 0) no_options c) (collect n (negsuc 0) no_options c))
    (handles settings policies v (rows_after n (negsuc 0) no_options v) (reported n (negsuc 0) no_options v) (collect n (negsuc 0) no_options v))
handle_same {u} {start} {c} {v} s settings policies n here = grind (arith, nat_tests, collect_same s n (negsuc 0) no_options here, reported_same s n (negsuc 0) no_options here, handles_same s (rows_after_same s n (negsuc 0) no_options here) settings policies (reported n (negsuc 0) no_options c) (reported_some s n (negsuc 0) no_options here) (collect n (negsuc 0) no_options c))
