-- Changes of all LWPs of one process.
use Rattle.std.specs.Prelude.{◌≡◌}
use Rattle.proc_table.specs.CommonNames.{ℕ, List, map, LwpData, ComputesRows}
pub use Rattle.lwp_table.specs.Lwps.{own_lwp}
use Rattle.proc_table.specs.Rows.{Rows}

-- the rows with each LWP of a process changed
abbrev pub map_lwps : ℕ → (LwpData → LwpData) → Rows → Rows
map_lwps pid f rows = record rows { lwps = map (own_lwp pid f) rows.lwps }

-- calls compute a change of the rows, which keeps each LWP's number and process
pub record IsLwpChange (returns : LwpData → LwpData → Type 0) (lwps : List LwpData) (change : LwpData → LwpData) : Type 0 where
  pub computes : ComputesRows returns lwps change
  pub number : (l : LwpData) → (change l).tid ≡ l.tid
  pub process : (l : LwpData) → (change l).pid ≡ l.pid
