-- Options, sets, calls and acts by their numbers.
use Rattle.std.specs.Prelude.{ℕ, ◌==◌, ◌/◌, ◌%◌, ◌^◌, ltb, Option, Some, None, option_map, option_and_then, if◌then◌else◌}
use Rattle.event_masks.specs.{Calls.call_numbered, declared.Call.Call, declared.CallKind.CallKind}
use Rattle.step_types.specs.{Names.act_numbered, declared.Act.Act, declared.ActKind.ActKind, declared.Options.Options}

-- the options of wait4(2): 1 is WNOHANG, which says nothing here, 2 is WUNTRACED, 4 is WCONTINUED
abbrev pub options_numbered : ℕ → Option Options
options_numbered bits =
    if ltb bits 8 then Some (record { untraced = bits / 2 % 2 == 1; continued = bits / 4 % 2 == 1 }) else None

-- a call of this kind, with the status of an exit, or the number of another call
abbrev pub call_with : ℕ → CallKind → Option Call
call_with argument CallKind.Fork = Some Call.Fork
call_with argument CallKind.Vfork = Some Call.Vfork
call_with argument CallKind.Exec = Some Call.Exec
call_with argument CallKind.ThrNew = Some Call.ThrNew
call_with argument CallKind.ThrExit = Some Call.ThrExit
call_with argument CallKind.Exit = if ltb argument 256 then Some (Call.Exit argument) else None
call_with argument CallKind.Other = Some (Call.Other argument)

-- a system call: its kind's number, and its argument
abbrev pub call_of : ℕ → ℕ → Option Call
call_of n argument = option_and_then (call_with argument) (call_numbered n)

-- a set of signals: bit n - 1 is signal n, for the signals 1 to 31
abbrev pub set_numbered : ℕ → Option ℕ
set_numbered bits = if ltb bits (2 ^ 31) then Some bits else None

-- an act of this kind, with the system call that it enters, or its signal or signals
abbrev pub act_with : ℕ → ℕ → ActKind → Option Act
act_with call argument ActKind.Compute = Some Act.Compute
act_with call argument ActKind.Raise = Some (Act.Raise argument)
act_with call argument ActKind.Block = option_map Act.Block (set_numbered argument)
act_with call argument ActKind.Enter = option_map Act.Enter (call_of call argument)
act_with call argument ActKind.Leave = Some Act.Leave

-- an act: its kind's number, the number of the system call that it enters, and its argument
abbrev pub act_of : ℕ → ℕ → ℕ → Option Act
act_of n call argument = option_and_then (act_with call argument) (act_numbered n)
