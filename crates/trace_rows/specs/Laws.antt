-- Chains of tracers, and rows after processes were detached.
use Rattle.std.specs.Prelude.{◌≡◌, ◌≤◌, ◌∷◌}
use Rattle.trace_rows.specs.CommonNames.{ℕ, zero, suc, Bool, true, List, [], Some, length, option_map_or, ProcData, process_of, is_live, Rows}
use Rattle.trace_rows.specs.Detach.{detached}
use Rattle.trace_rows.specs.End.{tracer_of, meets}
use Rattle.trace_rows.specs.Facts.{MidStepInvariant, IsSound}
use Rattle.trace_rows.specs.Limits.{max_processes}

-- the numbers of a process, its tracer, that process's tracer and so on, over at most this many links
unfoldable pub chain : ℕ → List ProcData → ℕ → List ℕ
chain zero processes n = n ∷ []
chain (suc links) processes n = n ∷ option_map_or (chain links processes) (tracer_of processes n) []

-- a chain of tracers has at most 249 links
abbrev pub ChainsEnd : Type 0
ChainsEnd = (rows : Rows) (n : ℕ) → MidStepInvariant rows → length (chain max_processes rows.processes n) ≤ max_processes

-- so 249 links of a chain reach all that any number of links reaches
abbrev pub ChainsMeet : Type 0
ChainsMeet = (rows : Rows) (links p n : ℕ) → MidStepInvariant rows → meets links rows.processes p n ≡ true → meets 249 rows.processes p n ≡ true

-- a tracee's chain of tracers is one longer than its tracer's
abbrev pub TraceeDeeper : Type 0
TraceeDeeper = (rows : Rows) (tracee tracer : ℕ) → MidStepInvariant rows → tracer_of rows.processes tracee ≡ Some tracer
    → length (chain max_processes rows.processes tracee) ≡ suc (length (chain max_processes rows.processes tracer))

-- sound rows are still sound after live processes were detached from their tracers
abbrev pub DetachedSound : Type 0
DetachedSound = (rows : Rows) (chosen : ProcData → Bool) (lost : ProcData → ℕ) → IsSound rows
    → ((r : ProcData) → process_of r.pid rows.processes ≡ Some r → chosen r ≡ true → is_live r ≡ true)
    → IsSound (detached chosen lost rows)
