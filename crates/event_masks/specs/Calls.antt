-- The kinds of system calls, with their names and numbers.
use Rattle.std.specs.Prelude.{ℕ, ◌==◌, List, [], ◌∷◌, Option, find, codes}
use Rattle.std.specs.Str.{bytes_eq}
use Rattle.event_masks.specs.declared.{Call.Call, CallKind.CallKind}

abbrev pub kind_of_call : Call → CallKind
kind_of_call Call.Fork = CallKind.Fork
kind_of_call Call.Vfork = CallKind.Vfork
kind_of_call Call.Exec = CallKind.Exec
kind_of_call Call.ThrNew = CallKind.ThrNew
kind_of_call Call.ThrExit = CallKind.ThrExit
kind_of_call (Call.Exit n) = CallKind.Exit
kind_of_call (Call.Other n) = CallKind.Other

-- the kinds of calls
abbrev pub call_kinds : List CallKind
call_kinds = CallKind.Fork ∷ CallKind.Vfork ∷ CallKind.Exec ∷ CallKind.ThrNew ∷ CallKind.ThrExit ∷ CallKind.Exit ∷
    CallKind.Other ∷ []

abbrev pub call_name : CallKind → List ℕ
call_name CallKind.Fork = codes "fork"
call_name CallKind.Vfork = codes "vfork"
call_name CallKind.Exec = codes "exec"
call_name CallKind.ThrNew = codes "thr_new"
call_name CallKind.ThrExit = codes "thr_exit"
call_name CallKind.Exit = codes "exit"
call_name CallKind.Other = codes "other"

abbrev pub call_named : List ℕ → Option CallKind
call_named text = find (λ x. bytes_eq text (call_name x)) call_kinds

abbrev pub call_number : CallKind → ℕ
call_number CallKind.Fork = 0
call_number CallKind.Vfork = 1
call_number CallKind.Exec = 2
call_number CallKind.ThrNew = 3
call_number CallKind.ThrExit = 4
call_number CallKind.Exit = 5
call_number CallKind.Other = 6

abbrev pub call_numbered : ℕ → Option CallKind
call_numbered n = find (λ x. n == call_number x) call_kinds
