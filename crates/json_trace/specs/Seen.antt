-- What users saw last.
use Rattle.std.specs.Prelude.{◌≡◌, ◌≢◌, ℕ, List, [], Option, Some, None, get_or, set}
use Rattle.pid_blocks.specs.Blocks.{slot}
use Rattle.lwp_table.specs.declared.LwpData.{LwpData}
use Rattle.proc_table.specs.declared.ProcData.{ProcData}
use Rattle.requests.specs.View.{View}

-- the rows of a view; before the first step there are none
abbrev pub processes_in : Option View → List ProcData
processes_in None = []
processes_in (Some v) = v.processes

abbrev pub lwps_in : Option View → List LwpData
lwps_in None = []
lwps_in (Some v) = v.lwps

-- the user has seen this, and all others what they saw
abbrev pub Sees : ℕ → View → (old new : List (Option View)) → Type 0
Sees u v old new = new ≡ set old (slot u) (Some v)
