-- The changes of an exec, in order.
use Rattle.std.specs.Prelude.{◌==◌, ◌&&◌}
use Rattle.requests.specs.CommonNames.{ℕ, Bool, not, filter, Option, Some, None, LwpData, ProcData, Rows, map_lwps, released}

-- an LWP of the process with another number
abbrev pub is_other : ℕ → ℕ → LwpData → Bool
is_other pid tid l = (l.pid == pid) && not (l.tid == tid)

-- the rows in which the process has only this LWP
abbrev pub only_lwp : ℕ → ℕ → Rows → Rows
only_lwp pid tid rows = record rows { lwps = filter (λ l. not (is_other pid tid l)) rows.lwps }

-- the rows in which no LWP of the parent waits for the child
abbrev pub parent_freed : Option ProcData → ℕ → Rows → Rows
parent_freed None child rows = rows
parent_freed (Some parent) child rows = map_lwps parent.pid (released (λ n. n == child) parent) rows
