-- What the text of rows tells.
use Rattle.std.specs.Prelude.{⊤, ◌≡◌, ℕ, ◌<◌, ◌≤◌, ◌^◌, List, [], ◌∷◌, Option, Some, None}
use Rattle.event_masks.specs.declared.Call.{Call}
use Rattle.event_masks.specs.declared.Call.TheVariants as call
use Rattle.lwp_table.specs.declared.{LwpData.LwpData, Mode.Mode}
use Rattle.lwp_table.specs.declared.Mode.TheVariants as mode
use Rattle.proc_table.specs.declared.{ProcData.ProcData, State.State}
use Rattle.proc_table.specs.declared.State.TheVariants as state
use Rattle.requests.specs.View.{View}
use Rattle.json_trace.specs.Rows.{rows_json}

abbrev pub IsNumber : ℕ → Type 0
IsNumber n = n < 2 ^ 32

abbrev pub IsSet : ℕ → Type 0
IsSet n = n < 2 ^ 31

abbrev pub IsSignal : ℕ → Type 0
IsSignal n = (1 ≤ n) × (n ≤ 31)

abbrev pub IsOptional : Option ℕ → Type 0
IsOptional None = ⊤
IsOptional (Some n) = IsNumber n

abbrev pub IsState : State → Type 0
IsState state.Run = ⊤
IsState (state.Trace tid signal reported) = IsNumber tid × IsSignal signal
IsState (state.Job signal reported) = IsSignal signal
IsState (state.Zombie status) = IsNumber status

abbrev pub IsCall : Call → Type 0
IsCall (call.Exit status) = IsNumber status
IsCall (call.Other number) = IsNumber number
IsCall c = ⊤

abbrev pub IsMode : Mode → Type 0
IsMode mode.User = ⊤
IsMode (mode.InCall c) = IsCall c
IsMode (mode.VforkWait child) = IsNumber child

-- a process of the user, whose numbers are those of their types and whose bits have names
pub record IsProcess (u : ℕ) (p : ProcData) : Type 0 where
  pub uid : p.uid ≡ u
  pub pid : IsNumber p.pid
  pub parent : IsNumber p.parent
  pub tracer : IsOptional p.tracer
  pub state : IsState p.state
  pub mask : p.mask.0 < 64
  pub pending : IsSet p.pending
  pub ignored : IsSet p.dispositions.ignored
  pub caught : IsSet p.dispositions.caught

pub record IsLwp (l : LwpData) : Type 0 where
  pub tid : IsNumber l.tid
  pub pid : IsNumber l.pid
  pub mode : IsMode l.mode
  pub blocked : IsSet l.blocked
  pub pending : IsSet l.pending
  pub flags : l.flags.0 < 512
  pub child : IsNumber l.child
  pub code : IsNumber l.code

abbrev pub AreProcesses : ℕ → List ProcData → Type 0
AreProcesses u [] = ⊤
AreProcesses u (p ∷ ps) = IsProcess u p × AreProcesses u ps

abbrev pub AreLwps : List LwpData → Type 0
AreLwps [] = ⊤
AreLwps (l ∷ ls) = IsLwp l × AreLwps ls

-- the rows of a user
abbrev pub AreRows : ℕ → View → Type 0
AreRows u v = AreProcesses u v.processes × AreLwps v.lwps

-- a user's rows with the same text are the same rows; the text lacks cursors, handlers and the settings of a view
abbrev pub RowsTell : Type 0
RowsTell = (u : ℕ) (v w : View) → AreRows u v → AreRows u w → rows_json v ≡ rows_json w → (v.processes ≡ w.processes) × (v.lwps ≡ w.lwps)
