-- Posting any signal, trace stops, and how a process is resumed.
use Rattle.std.specs.Prelude.{◌==◌, if◌then◌else◌}
use Rattle.trace_rows.specs.CommonNames.{ℕ, Bool, false, List, Option, option_to_list, SIGKILL, ends, ProcData, Trace, process_of, Rows, change_process, change_lwp, is_numbered, Settings, StopInfo, Resumption}
use Rattle.trace_rows.specs.Post.{posted, notified}
use Rattle.trace_rows.specs.Detach.{resumed, detached, signal_alone}
use Rattle.trace_rows.specs.End.{end, exists, tracer_of}

-- the rows after a signal is posted to a process, or to an LWP of it
abbrev pub post : Settings → ℕ → Option ℕ → ℕ → Rows → Rows
post settings s to pid rows = if s == SIGKILL then end settings pid SIGKILL rows else posted s to pid rows

abbrev pub tracers : Option ℕ → List ℕ
tracers tracer = option_to_list tracer

-- the rows after an LWP of a process stops it for its tracer
abbrev pub stop : ℕ → ℕ → StopInfo → Rows → Rows
stop pid tid shown rows =
    notified (tracers (tracer_of rows.processes pid))
    (change_process pid (λ p. record p { state = Trace tid shown.sig false })
    (change_lwp tid (λ l. record l { flags = shown.flags; child = shown.child; code = shown.code }) rows))

-- whether the signal ends a process that is resumed with it
abbrev pub ends_process : ℕ → Option ProcData → Bool
ends_process s process = exists (λ p. ends p.dispositions s) process

-- the rows after a process is resumed, which its signal may end
abbrev pub resume : Settings → Resumption → ℕ → Rows → Rows
resume settings how pid rows =
    if ends_process how.pass (process_of pid rows.processes) then end settings pid how.pass (resumed how pid rows) else resumed how pid rows

-- the rows after a process is detached, with a signal or with 0
abbrev pub detach : Settings → ℕ → ℕ → Rows → Rows
detach settings pid s rows =
    if ends_process s (process_of pid rows.processes) then resume settings (signal_alone s) pid rows
    else detached (is_numbered pid) (λ p. 0) rows
