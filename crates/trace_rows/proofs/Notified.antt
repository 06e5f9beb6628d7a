-- The processes that are notified of a signal or a stop: one or none.
use Rattle.trace_rows.proofs.CommonNames.{◌≡◌, ℕ, [], ◌∷◌, refl, ◌∙◌, arith, Option, Some, None, nat_tests, SIGCHLD, ProcData, process_of, Rows, change, is_numbered, notified, posted_process, posted_lwp}
use Rattle.proc_table.proofs.Changes.{change-none}
use Rattle.trace_rows.proofs.CommonLemmas.{edit_none, lwps_left}

pub notified-one : (n : ℕ) (rows : Rows) → notified (n ∷ []) rows ≡ change (is_numbered n) (posted_process SIGCHLD None) (posted_lwp SIGCHLD None) rows
notified-one n rows = grind (arith, nat_tests)

-- no process is notified if no process has the number
pub notified-absent : (n : ℕ) (rows : Rows) → process_of n rows.processes ≡ None → notified (n ∷ []) rows ≡ rows
notified-absent n rows none = notified-one n rows ∙ change-none n (posted_process SIGCHLD None) (posted_lwp SIGCHLD None) rows none

pub notified-none : (rows : Rows) → notified [] rows ≡ rows
notified-none rows = rw (edit_none (λ q. Some q) (λ q. refl) rows.processes, lwps_left rows) refl

-- a process keeps its numbers, its tracer and its parent
pub posted_process-same : (s : ℕ) (to : Option ℕ) (p : ProcData)
    → ((posted_process s to p).pid ≡ p.pid) × ((posted_process s to p).uid ≡ p.uid) × ((posted_process s to p).tracer ≡ p.tracer) × ((posted_process s to p).parent ≡ p.parent)
posted_process-same s to p = grind (arith, nat_tests)

-- for goals in which no process is notified
pub ruleset tells_none = (notified-none, notified-absent)
