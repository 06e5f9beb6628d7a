-- How a traced process runs on, with its tracer or without.
use Rattle.std.specs.Prelude.{if◌then◌else◌, ◌==◌}
use Rattle.trace_rows.specs.CommonNames.{ℕ, Bool, false, Option, Some, None, option_map, without, no_events, mask_with, no_flags, EventMask, Resumption, Stepping, shows, PL_FLAG_EXITED, ProcData, Run, LwpData, Nothing, reporting, is_this, Rows, each, is_numbered}
use Rattle.trace_rows.specs.Post.{settled_process, settled_lwp}

-- a process that runs on, with these events added to its mask
abbrev pub running : EventMask → ProcData → ProcData
running adds p = record p { state = Run; mask = mask_with p.mask adds }

-- whether an LWP of it steps, and the LWP with that
abbrev pub is_stepping : Stepping → LwpData → Bool
is_stepping Stepping.Unchanged l = l.stepping
is_stepping Stepping.Nobody l = false
is_stepping (Stepping.Only tid) l = l.tid == tid

abbrev pub steps : Stepping → LwpData → LwpData
steps stepping l = record l { stepping = is_stepping stepping l }

-- an LWP of it: the reporting LWP loses what it reported, and is removed if it has exited
abbrev pub reported : ProcData → LwpData → Option LwpData
reported p l =
    if is_this l.tid (reporting p)
    then (if shows l.flags PL_FLAG_EXITED then None else Some (record l { flags = no_flags; child = 0; code = 0 }))
    else Some l

-- the rows in which chosen processes change and their LWPs run on and then change
abbrev pub run_on : (ProcData → Bool) → (ProcData → ProcData) → (ProcData → LwpData → LwpData) → Rows → Rows
run_on chosen process lwp rows =
    each (λ p. Some (if chosen p then process p else p)) (λ p l. if chosen p then option_map (lwp p) (reported p l) else Some l) rows

-- the rows after a process was resumed
abbrev pub resumed : Resumption → ℕ → Rows → Rows
resumed how pid rows = run_on (is_numbered pid) (running how.adds) (λ p l. steps how.stepping l) rows

-- a resumption with a signal, or with 0, and with nothing else
abbrev pub signal_alone : ℕ → Resumption
signal_alone s = record { adds = no_events; stepping = Stepping.Unchanged; pass = s }

-- a process that is no longer traced, and an LWP of it; the signals of the set `lost` leave its pending sets
abbrev pub untraced : ℕ → ProcData → ProcData
untraced lost p = settled_process (record p { state = Run; tracer = None; mask = no_events; pending = without p.pending lost })

abbrev pub untraced_lwp : ℕ → ProcData → LwpData → LwpData
untraced_lwp lost p l =
    settled_lwp (untraced lost p) (record l { stepping = false; suspended = false; due = Nothing; pending = without l.pending lost })

-- the rows after chosen processes were detached from their tracers, each without the signals of its own set
abbrev pub detached : (ProcData → Bool) → (ProcData → ℕ) → Rows → Rows
detached chosen lost rows = run_on chosen (λ p. untraced (lost p) p) (λ p l. untraced_lwp (lost p) p l) rows
