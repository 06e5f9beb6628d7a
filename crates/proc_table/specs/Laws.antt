-- What the walks over processes return, and what a user's queries see of the rows.
use Rattle.std.specs.Prelude.{◌≡◌, ◌≤◌, ◌<◌, ◌==◌}
use Rattle.proc_table.specs.CommonNames.{ℕ, Bool, true, false, List, Option, Some, None, filter, IsUser, ProcData}
use Rattle.proc_table.specs.Processes.{process_of, of_user, traces}
use Rattle.proc_table.specs.Rows.{Rows}
use Rattle.proc_table.specs.Seen.{owns, visible_process, seen_lwp, find_seen}
use Rattle.proc_table.specs.Walks.{next_of, next_tracee, next_child}
use Rattle.proc_table.specs.Fresh.{process_count, lwp_count_of, fresh_pid, fresh_tid}
use Rattle.proc_table.specs.Kept.{Rise, TableInvariant}

-- p has the least number of the rows above a number that pass a test
pub record IsLeast (test : ProcData → Bool) (after : ℕ) (processes : List ProcData) (p : ProcData) : Type 0 where
  pub row : process_of p.pid processes ≡ Some p
  pub above : after < p.pid
  pub passes : test p ≡ true
  pub least : (q : ProcData) → process_of q.pid processes ≡ Some q → after < q.pid → test q ≡ true → p.pid ≤ q.pid

-- the result is that row, or none if no row above the number passes
abbrev pub LeastOrNone : (ProcData → Bool) → ℕ → List ProcData → Option ProcData → Type 0
LeastOrNone test after processes None = (q : ProcData) → process_of q.pid processes ≡ Some q → after < q.pid → test q ≡ false
LeastOrNone test after processes (Some p) = IsLeast test after processes p

-- a walk returns this result if the numbers rise
abbrev pub GivesLeast : (ProcData → Bool) → (ℕ → List ProcData → Option ProcData) → Type 0
GivesLeast test walk = (after : ℕ) (processes : List ProcData) → Rise processes → LeastOrNone test after processes (walk after processes)

abbrev pub NextOfLeast : Type 0
NextOfLeast = (u : ℕ) → GivesLeast (λ p. p.uid == u) (next_of u)

abbrev pub NextTraceeLeast : Type 0
NextTraceeLeast = (pid : ℕ) → GivesLeast (traces pid) (next_tracee pid)

abbrev pub NextChildLeast : Type 0
NextChildLeast = (pid : ℕ) → GivesLeast (λ p. p.parent == pid) (next_child pid)

-- only the rows of a user's processes and of their LWPs
abbrev pub only_of : ℕ → Rows → Rows
only_of u rows = record rows { processes = of_user u rows.processes; lwps = filter (λ l. owns u l.pid rows.processes) rows.lwps }

-- a user's query has the same result if no other user has rows
abbrev pub SeesOwn : {A : Type 0} → (ℕ → Rows → A) → Type 0
SeesOwn ask = (u : ℕ) (rows : Rows) → ask u (only_of u rows) ≡ ask u rows

-- and so it does for rows that the tables maintain
abbrev pub KeptSeesOwn : {A : Type 0} → (ℕ → Rows → A) → Type 0
KeptSeesOwn ask = (u : ℕ) (rows : Rows) → IsUser u → TableInvariant rows → ask u (only_of u rows) ≡ ask u rows

abbrev pub NextSeesOwn : Type 0
NextSeesOwn = (after : ℕ) → SeesOwn (λ u rows. next_of u after rows.processes)

abbrev pub ProcessSeesOwn : Type 0
ProcessSeesOwn = (n : ℕ) → SeesOwn (λ u rows. visible_process u n rows)

abbrev pub LwpSeesOwn : Type 0
LwpSeesOwn = (n : ℕ) → SeesOwn (λ u rows. seen_lwp u n rows)

abbrev pub NumberSeesOwn : Type 0
NumberSeesOwn = (n : ℕ) → SeesOwn (λ u rows. find_seen u n rows)

abbrev pub CountsSeeOwn : Type 0
CountsSeeOwn = SeesOwn process_count × SeesOwn lwp_count_of

-- no number of a user's block belongs to another user
abbrev pub FreshSeesOwn : Type 0
FreshSeesOwn = KeptSeesOwn fresh_pid × KeptSeesOwn fresh_tid
