-- The end of a process as a sequence of ends of processes without live tracees.
use Rattle.std.specs.Prelude.{◌≡◌, ◌<◌, ◌==◌, ◌&&◌, ◌||◌}
use Rattle.trace_rows.specs.CommonNames.{ℕ, Bool, true, false, Some, not, count_by, list_any, SIGKILL, ProcData, process_of, is_live, traces, Rows, is_process}
use Rattle.step_types.specs.declared.Settings.{Settings}
use Rattle.trace_rows.specs.End.{dooms, left_alone, end_each, end}
use Rattle.trace_rows.specs.Sound.{is_live_at, is_end}
use Rattle.trace_rows.specs.Facts.{MidStepInvariant, IsSound}

-- whether the process numbered q traces a live one
abbrev pub traces_live : ℕ → Rows → Bool
traces_live q rows = list_any (λ r. is_live r && traces q r) rows.processes

-- the rows after only q has ended
abbrev pub end_alone : ℕ → ℕ → Rows → Rows
end_alone q status rows = end_each (λ r. r.pid == q) (λ n. n == q) q status rows

-- if a process without live tracees ends, no other process ends
abbrev pub LeafEnd : Type 0
LeafEnd = (settings : Settings) (rows : Rows) (q status : ℕ) → settings.kill_on_debugger_exit ≡ true → MidStepInvariant rows
    → is_process rows q ≡ true → traces_live q rows ≡ false → end settings q status rows ≡ end_alone q status rows

-- nor does one if its tracees are detached
abbrev pub DetachedEnd : Type 0
DetachedEnd = (settings : Settings) (rows : Rows) (q status : ℕ) → settings.kill_on_debugger_exit ≡ false
    → is_process rows q ≡ true → end settings q status rows ≡ end_alone q status (left_alone settings q rows)

-- if a debugger's end kills, a process that ends with p can end before p, once it has no live tracee
abbrev pub LeafEndsFirst : Type 0
LeafEndsFirst = (settings : Settings) (rows : Rows) (p q status : ℕ) → settings.kill_on_debugger_exit ≡ true → MidStepInvariant rows
    → (q == p) ≡ false → dooms settings rows.processes p q ≡ true → traces_live q rows ≡ false
    → end settings p status rows ≡ end settings p status (end settings q SIGKILL rows)

-- a live tracee of p, or of a process that ends with p, is not p, and ends with p
abbrev pub TraceeDoomed : Type 0
TraceeDoomed = (settings : Settings) (rows : Rows) (p x : ℕ) (y : ProcData) → settings.kill_on_debugger_exit ≡ true → MidStepInvariant rows
    → ((x == p) || dooms settings rows.processes p x) ≡ true
    → process_of y.pid rows.processes ≡ Some y → (is_live y && traces x y) ≡ true
    → ((y.pid == p) ≡ false) × (dooms settings rows.processes p y.pid ≡ true)

-- if other processes end with p, one of them traces no live process
abbrev pub LeafExists : Type 0
LeafExists = (settings : Settings) (rows : Rows) (p x : ℕ) → settings.kill_on_debugger_exit ≡ true → MidStepInvariant rows
    → (x == p) ≡ false → dooms settings rows.processes p x ≡ true
    → (q : ℕ) × ((q == p) ≡ false) × (dooms settings rows.processes p q ≡ true) × (traces_live q rows ≡ false)

-- After the end of a live process q without live tracees, if a debugger's end kills

-- all processes that were live are live, except q
abbrev pub LeafEndsNoOther : Type 0
LeafEndsNoOther = (settings : Settings) (rows : Rows) (q status n : ℕ) → settings.kill_on_debugger_exit ≡ true → MidStepInvariant rows
    → is_live_at q rows ≡ true → traces_live q rows ≡ false
    → is_live_at n (end settings q status rows) ≡ (is_live_at n rows && not (n == q))

-- so fewer processes are live
abbrev pub LeafEndLeavesFewer : Type 0
LeafEndLeavesFewer = (settings : Settings) (rows : Rows) (q status : ℕ) → settings.kill_on_debugger_exit ≡ true → MidStepInvariant rows
    → is_live_at q rows ≡ true → traces_live q rows ≡ false
    → count_by is_live (end settings q status rows).processes < count_by is_live rows.processes

-- and all processes that were to end with p, except q, are still to end with it
abbrev pub LeafEndSparesNoDoomed : Type 0
LeafEndSparesNoDoomed = (settings : Settings) (rows : Rows) (p q n : ℕ) → settings.kill_on_debugger_exit ≡ true → MidStepInvariant rows
    → (q == p) ≡ false → dooms settings rows.processes p q ≡ true → traces_live q rows ≡ false
    → dooms settings (end settings q SIGKILL rows).processes p n ≡ (dooms settings rows.processes p n && not (n == q))

-- sound rows are sound after the end of any live process, whatever a debugger's end does
abbrev pub EndSound : Type 0
EndSound = (settings : Settings) (rows : Rows) (p status : ℕ) → IsSound rows → is_end status ≡ true
    → is_live_at p rows ≡ true → IsSound (end settings p status rows)
