-- A run checked by computation: its replies. Further runs are row files, tests/rows/runs.
use Rattle.std.specs.Prelude.{◌≡◌, ◌∷◌}
use Rattle.requests.specs.CommonNames.{ℕ, negsuc, true, List, [], EventMask, StopFlags, Call, StatusKind, PlainStep}
use Rattle.step_types.specs.{Plain.UserStep, Status.no_options, declared.Act.Act, declared.Reply.Reply, declared.Request.Request, declared.step.Step.Step}
use Rattle.step_types.specs.declared.Event.TheVariants as event
use Rattle.requests.specs.Machine.{Machine, empty}
use Rattle.requests.specs.Run.{replies}

abbrev pub kills : Machine
kills = empty (record { kill_on_debugger_exit = true })

abbrev pub by : ℕ → PlainStep → UserStep
by u s = record { uid = u; step = s }

abbrev pub flags : ℕ → StopFlags
flags bits = record { 0 = bits }

abbrev pub mask : ℕ → EventMask
mask bits = record { 0 = bits }

abbrev pub followed_fork : List UserStep
followed_fork = by 1001 Step.Spawn ∷ by 1001 Step.Spawn ∷ by 1001 (Step.Ptrace 1000 Request.Attach 1001 0) ∷ by 1001 (Step.Wait4 1000 (negsuc 0) no_options)
    ∷ by 1001 (Step.Ptrace 1000 Request.SetEventMask 1001 12) ∷ by 1001 (Step.Ptrace 1000 Request.GetEventMask 1001 0)
    ∷ by 1001 (Step.Ptrace 1000 Request.Continue 1001 0) ∷ by 1001 (Step.Turn 100001 (Act.Enter Call.Fork)) ∷ by 1001 (Step.Turn 100001 Act.Leave)
    ∷ by 1001 (Step.Wait4 1000 (negsuc 0) no_options) ∷ by 1001 (Step.Ptrace 1000 Request.LwpInfo 1001 0) ∷ by 1001 (Step.Wait4 1000 (negsuc 0) no_options)
    ∷ by 1001 (Step.Ptrace 1000 Request.LwpInfo 1002 0) ∷ by 1001 (Step.Ptrace 1000 Request.GetEventMask 1002 0)
    ∷ by 1001 (Step.Wait4 1000 (negsuc 0) no_options) ∷ []

-- a debugger follows a fork
abbrev pub ForkIsFollowed : Type 0
ForkIsFollowed = replies followed_fork kills
    ≡ Reply.New 1000 100000 ∷ Reply.New 1001 100001 ∷ Reply.Done ∷ Reply.Status 1001 (StatusKind.Stopped 17) ∷ Reply.Done ∷ Reply.Mask (mask 12)
    ∷ Reply.Done ∷ Reply.Done ∷ Reply.Stopped 100001 5 (flags 10) ∷ Reply.Status 1001 (StatusKind.Stopped 5)
    ∷ Reply.Info (record { tid = 100001; event = event.Signal; flags = (flags 10); sigmask = 0; siglist = 0; child = 1002; code = 2 })
    ∷ Reply.Status 1002 (StatusKind.Stopped 17)
    ∷ Reply.Info (record { tid = 100002; event = event.Signal; flags = (flags 18); sigmask = 0; siglist = 0; child = 0; code = 2 })
    ∷ Reply.Mask (mask 1) ∷ Reply.Nothing ∷ []
