-- The end of a process.
use Rattle.std.specs.Prelude.{◌==◌, ◌&&◌, ◌||◌, if◌then◌else◌}
use Rattle.trace_rows.specs.CommonNames.{ℕ, Bool, false, not, zero, suc, List, Option, Some, None, is_some, is_none, unwrap_or, filter_map, option_map, option_and_then, option_map_or, list_any, bit}
use Rattle.trace_rows.specs.CommonNames.{SIGKILL, SIGTRAP, no_events, asks, PTRACE_VFORK, ProcData, Zombie, LwpData, Mode, User, VforkWait, VforkDone, keep, process_of, is_live, traces, reporting}
use Rattle.trace_rows.specs.CommonNames.{Rows, each, Settings}
use Rattle.trace_rows.specs.Post.{notified}
use Rattle.trace_rows.specs.Detach.{detached}
use Rattle.trace_rows.specs.Limits.{max_processes}

-- the tracer of the process numbered n
abbrev pub tracer_of : List ProcData → ℕ → Option ℕ
tracer_of processes n = option_and_then (λ p. p.tracer) (process_of n processes)

-- whether there is a value that passes the test
abbrev pub exists : {X : Type 0} → (X → Bool) → Option X → Bool
exists test o = option_map_or test o false

-- whether p is among n's tracer, that process's tracer and so on, within this many links
unfoldable pub meets : ℕ → List ProcData → ℕ → ℕ → Bool
meets zero processes p n = false
meets (suc links) processes p n = exists (λ t. (t == p) || meets links processes p t) (tracer_of processes n)

-- whether the row q ends with p: p itself, and, if debuggers kill, each live process with a chain of tracers to p
abbrev pub is_doomed : Settings → List ProcData → ℕ → ProcData → Bool
is_doomed settings processes p q = (q.pid == p) || (settings.kill_on_debugger_exit && is_live q && meets max_processes processes p q.pid)

-- the same for a number
abbrev pub dooms : Settings → List ProcData → ℕ → ℕ → Bool
dooms settings processes p n = list_any (λ q. (q.pid == n) && is_doomed settings processes p q) processes

-- the process without the parent and the tracer that end
abbrev pub orphaned : (ℕ → Bool) → ProcData → ProcData
orphaned ended q = record q { tracer = keep (λ t. not (ended t)) q.tracer; parent = if ended q.parent then 1 else q.parent }

-- a process that has ended with this status
abbrev pub dead : ℕ → ProcData → ProcData
dead status q = record q { state = Zombie status; continued = false; mask = no_events; pending = 0 }

-- a zombie, which is removed if it has neither a tracer nor a parent other than 1
abbrev pub uncollected : ProcData → Option ProcData
uncollected z = if is_none z.tracer && (z.parent == 1) then None else Some z

-- a process after p has ended with the status: `ends` tests which rows end, and `over` their numbers
abbrev pub process_after : (ProcData → Bool) → (ℕ → Bool) → ℕ → ℕ → ProcData → Option ProcData
process_after ends over p status q =
    if ends q
    then uncollected (dead (if q.pid == p then status else SIGKILL) (orphaned over q))
    else (if is_live q then Some (record q { parent = if over q.parent then 1 else q.parent }) else uncollected (orphaned over q))

-- the process that an LWP waits for
abbrev pub waited_for : Mode → Option ℕ
waited_for (VforkWait c) = Some c
waited_for other = None

-- whether an LWP in this mode waits for a process that passes the test
abbrev pub waits_where : (ℕ → Bool) → Mode → Bool
waits_where test mode = exists test (waited_for mode)

-- an LWP, whose vfork wait is over if the process that it waits for passes the test
abbrev pub released : (ℕ → Bool) → ProcData → LwpData → LwpData
released over p l =
    if waits_where over l.mode
    then record l { mode = User; due = if is_some p.tracer && asks p.mask PTRACE_VFORK then VforkDone else l.due }
    else l

-- an LWP after the end of a process
abbrev pub lwp_after : (ProcData → Bool) → (ℕ → Bool) → ProcData → LwpData → Option LwpData
lwp_after ends over q l = if ends q then None else Some (released over q l)

-- the process that is notified of a zombie: its tracer, or else its parent
abbrev pub collector : ProcData → ℕ
collector z = unwrap_or z.tracer z.parent

-- the process that is notified of the row q: of a new zombie that stays, and of an older one whose tracer has ended
abbrev pub notifies_of : (ProcData → Bool) → (ℕ → Bool) → ℕ → ℕ → ProcData → Option ℕ
notifies_of ends over p status q =
    if ends q || (not (is_live q) && exists over q.tracer) then option_map collector (process_after ends over p status q) else None

-- the signals that a tracee loses when its debugger ends: SIGTRAP if the tracee is in a trace stop
abbrev pub lost_signals : ProcData → ℕ
lost_signals p = if is_some (reporting p) then bit SIGTRAP else 0

-- the rows after the live tracees of p were detached if debuggers don't kill, and else the rows unchanged
abbrev pub left_alone : Settings → ℕ → Rows → Rows
left_alone settings p rows =
    if settings.kill_on_debugger_exit then rows else detached (λ q. is_live q && traces p q) lost_signals rows

-- the rows with each row changed as the end of p with the status changes it, and then SIGCHLD posted to those notified
abbrev pub end_each : (ProcData → Bool) → (ℕ → Bool) → ℕ → ℕ → Rows → Rows
end_each ends over p status rows =
    notified (filter_map (notifies_of ends over p status) rows.processes)
    (each (process_after ends over p status) (lwp_after ends over) rows)

abbrev pub end_of : Settings → ℕ → ℕ → Rows → Rows
end_of settings p status rows =
    end_each (is_doomed settings rows.processes p) (dooms settings rows.processes p) p status rows

-- the rows after p has ended with the status
abbrev pub end : Settings → ℕ → ℕ → Rows → Rows
end settings p status rows = end_of settings p status (left_alone settings p rows)
