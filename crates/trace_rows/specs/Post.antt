-- Posting a signal to a live process.
use Rattle.std.specs.Prelude.{◌==◌, ◌&&◌, ◌∷◌, if◌then◌else◌}
use Rattle.trace_rows.specs.CommonNames.{ℕ, Bool, true, List, [], Option, Some, None, is_some, is_none, list_any, with, without, SIGCONT, SIGCHLD, opposed, nothing, ProcData, Run, LwpData, process_of}
use Rattle.trace_rows.specs.CommonNames.{is_job, is_this, Rows, change, is_numbered}

-- the signals that an untraced process's pending sets lose, since their action is nothing
abbrev pub unwanted : ProcData → ℕ
unwanted p = if is_some p.tracer then 0 else nothing p.dispositions

abbrev pub settled_process : ProcData → ProcData
settled_process p = record p { pending = without p.pending (unwanted p) }

abbrev pub settled_lwp : ProcData → LwpData → LwpData
settled_lwp p l = record l { pending = without l.pending (unwanted p) }

-- the rows after the pending sets of one process were settled
abbrev pub settle : ℕ → Rows → Rows
settle pid rows = change (is_numbered pid) settled_process settled_lwp rows

-- whether the signal continues a process that job control has stopped
abbrev pub continues : ℕ → ProcData → Bool
continues s p = (s == SIGCONT) && is_job p

-- a set of pending signals after s is posted, to this set or to another set of the process, and after it was settled
abbrev pub signal_put : ℕ → Bool → ℕ → ℕ
signal_put s here pending = let left = without pending (opposed s) in if here then with left s else left

abbrev pub posted_set : ℕ → Bool → ProcData → ℕ → ℕ
posted_set s here p pending = without (signal_put s here pending) (unwanted p)

-- a process after s is posted to it, or to its LWP `to`
abbrev pub posted_process : ℕ → Option ℕ → ProcData → ProcData
posted_process s to p =
    let q = record p { pending = posted_set s (is_none to) p p.pending } in
    if continues s p then record q { state = Run; continued = true } else q

abbrev pub posted_lwp : ℕ → Option ℕ → ProcData → LwpData → LwpData
posted_lwp s to p l = record l { pending = posted_set s (is_this l.tid to) p l.pending }

-- the rows after SIGCHLD is posted to the processes with these numbers
abbrev pub notified : List ℕ → Rows → Rows
notified pids rows =
    change (λ p. list_any (λ n. n == p.pid) pids) (posted_process SIGCHLD None) (posted_lwp SIGCHLD None) rows

-- the numbers of the processes that are notified when s is posted to a process: the parent of one that continues
abbrev pub notifies : ℕ → Option ProcData → List ℕ
notifies s None = []
notifies s (Some p) = if continues s p then p.parent ∷ [] else []

-- the rows after a signal other than SIGKILL is posted to a process, or to an LWP of it
abbrev pub posted : ℕ → Option ℕ → ℕ → Rows → Rows
posted s to pid rows =
    notified (notifies s (process_of pid rows.processes))
    (change (is_numbered pid) (posted_process s to) (posted_lwp s to) rows)
