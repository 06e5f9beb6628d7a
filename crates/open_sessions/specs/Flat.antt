-- States of processes, modes of LWPs and decisions as numbers.
use Rattle.std.specs.Prelude.{ℕ, Bool, Option, unwrap_or, if◌then◌else◌}
use Rattle.{event_masks.specs.declared.Call.Call, lwp_table.specs.declared.{Due.Due, Mode.Mode}, proc_table.specs.declared.State.State, stop_handlers.specs.declared.Decision.Decision}
use Rattle.open_sessions.specs.declared.flat.{FlatState.FlatState, FlatMode.FlatMode}

abbrev pub flag : Bool → ℕ
flag is_set = if is_set then 1 else 0

-- the number, if there is one, and else 0
abbrev pub number_or_0 : Option ℕ → ℕ
number_or_0 number = unwrap_or number 0

abbrev pub flat_state : State → FlatState
flat_state State.Run = record { state = 0; lwp = 0; signal = 0; reported = 0; status = 0 }
flat_state (State.Trace tid sig reported) = record { state = 1; lwp = tid; signal = sig; reported = flag reported; status = 0 }
flat_state (State.Job sig reported) = record { state = 2; lwp = 0; signal = sig; reported = flag reported; status = 0 }
flat_state (State.Zombie status) = record { state = 3; lwp = 0; signal = 0; reported = 0; status = status }

-- the number of a system call, and its argument
abbrev pub flat_call : Call → ℕ × ℕ
flat_call Call.Fork = (0, 0)
flat_call Call.Vfork = (1, 0)
flat_call Call.Exec = (2, 0)
flat_call Call.ThrNew = (3, 0)
flat_call Call.ThrExit = (4, 0)
flat_call (Call.Exit status) = (5, status)
flat_call (Call.Other number) = (6, number)

abbrev pub flat_mode : Mode → FlatMode
flat_mode Mode.User = record { mode = 0; call = 0; argument = 0; child = 0 }
flat_mode (Mode.InCall c) = record { mode = 1; call = (flat_call c).0; argument = (flat_call c).1; child = 0 }
flat_mode (Mode.VforkWait child) = record { mode = 2; call = 0; argument = 0; child = child }

abbrev pub due_number : Due → ℕ
due_number Due.Nothing = 0
due_number Due.Born = 1
due_number Due.Begun = 2
due_number Due.VforkDone = 3

-- the signal that a decision passes on, or 0
abbrev pub passed : Decision → ℕ
passed (Decision.Continue signal) = signal
passed (Decision.Detach signal) = signal
passed decision = 0
