-- The names of steps, requests and acts, and the numbers of the last two.
use Rattle.std.specs.Prelude.{ℕ, ◌==◌, List, [], ◌∷◌, Option, find, codes}
use Rattle.std.specs.Str.{bytes_eq}
use Rattle.step_types.specs.Plain.{PlainStep}
use Rattle.step_types.specs.declared.{Act.Act, ActKind.ActKind, Request.Request, step.Step.Step, step.StepKind.StepKind}

abbrev pub kind_of_step : PlainStep → StepKind
kind_of_step Step.Spawn = StepKind.Spawn
kind_of_step (Step.Ptrace caller request target arg) = StepKind.Ptrace
kind_of_step (Step.Wait4 caller which options) = StepKind.Wait4
kind_of_step (Step.Kill caller which sig) = StepKind.Kill
kind_of_step (Step.Sigaction caller sig disposition) = StepKind.Sigaction
kind_of_step (Step.List caller) = StepKind.List
kind_of_step (Step.Install caller policy) = StepKind.Install
kind_of_step (Step.Handle caller) = StepKind.Handle
kind_of_step (Step.Turn tid act) = StepKind.Turn

-- the kinds of steps, named by their ops
abbrev pub step_kinds : List StepKind
step_kinds = StepKind.Spawn ∷ StepKind.Ptrace ∷ StepKind.Wait4 ∷ StepKind.Kill ∷ StepKind.Sigaction ∷ StepKind.List ∷
    StepKind.Install ∷ StepKind.Handle ∷ StepKind.Turn ∷ []

abbrev pub op_name : StepKind → List ℕ
op_name StepKind.Spawn = codes "spawn"
op_name StepKind.Ptrace = codes "ptrace"
op_name StepKind.Wait4 = codes "wait4"
op_name StepKind.Kill = codes "kill"
op_name StepKind.Sigaction = codes "sigaction"
op_name StepKind.List = codes "list"
op_name StepKind.Install = codes "install"
op_name StepKind.Handle = codes "handle"
op_name StepKind.Turn = codes "turn"

abbrev pub op_named : List ℕ → Option StepKind
op_named text = find (λ x. bytes_eq text (op_name x)) step_kinds

-- the requests of ptrace(2)
abbrev pub requests : List Request
requests = Request.TraceMe ∷ Request.Attach ∷ Request.Continue ∷ Request.Step ∷ Request.ToSce ∷ Request.ToScx ∷
    Request.Syscall ∷ Request.Detach ∷ Request.Kill ∷ Request.Suspend ∷ Request.Resume ∷ Request.SetEventMask ∷
    Request.GetEventMask ∷ Request.FollowFork ∷ Request.LwpEvents ∷ Request.LwpInfo ∷ Request.GetNumLwps ∷
    Request.GetLwpList ∷ []

abbrev pub request_name : Request → List ℕ
request_name Request.TraceMe = codes "PT_TRACE_ME"
request_name Request.Attach = codes "PT_ATTACH"
request_name Request.Continue = codes "PT_CONTINUE"
request_name Request.Step = codes "PT_STEP"
request_name Request.ToSce = codes "PT_TO_SCE"
request_name Request.ToScx = codes "PT_TO_SCX"
request_name Request.Syscall = codes "PT_SYSCALL"
request_name Request.Detach = codes "PT_DETACH"
request_name Request.Kill = codes "PT_KILL"
request_name Request.Suspend = codes "PT_SUSPEND"
request_name Request.Resume = codes "PT_RESUME"
request_name Request.SetEventMask = codes "PT_SET_EVENT_MASK"
request_name Request.GetEventMask = codes "PT_GET_EVENT_MASK"
request_name Request.FollowFork = codes "PT_FOLLOW_FORK"
request_name Request.LwpEvents = codes "PT_LWP_EVENTS"
request_name Request.LwpInfo = codes "PT_LWPINFO"
request_name Request.GetNumLwps = codes "PT_GETNUMLWPS"
request_name Request.GetLwpList = codes "PT_GETLWPLIST"

abbrev pub request_named : List ℕ → Option Request
request_named text = find (λ x. bytes_eq text (request_name x)) requests

-- the numbers of <sys/ptrace.h> of FreeBSD
abbrev pub request_number : Request → ℕ
request_number Request.TraceMe = 0
request_number Request.Attach = 10
request_number Request.Continue = 7
request_number Request.Step = 9
request_number Request.ToSce = 20
request_number Request.ToScx = 21
request_number Request.Syscall = 22
request_number Request.Detach = 11
request_number Request.Kill = 8
request_number Request.Suspend = 18
request_number Request.Resume = 19
request_number Request.SetEventMask = 26
request_number Request.GetEventMask = 25
request_number Request.FollowFork = 23
request_number Request.LwpEvents = 24
request_number Request.LwpInfo = 13
request_number Request.GetNumLwps = 14
request_number Request.GetLwpList = 15

abbrev pub request_numbered : ℕ → Option Request
request_numbered n = find (λ x. n == request_number x) requests

abbrev pub kind_of_act : Act → ActKind
kind_of_act Act.Compute = ActKind.Compute
kind_of_act (Act.Raise x) = ActKind.Raise
kind_of_act (Act.Block x) = ActKind.Block
kind_of_act (Act.Enter x) = ActKind.Enter
kind_of_act Act.Leave = ActKind.Leave

-- the kinds of acts
abbrev pub act_kinds : List ActKind
act_kinds = ActKind.Compute ∷ ActKind.Raise ∷ ActKind.Block ∷ ActKind.Enter ∷ ActKind.Leave ∷ []

abbrev pub act_name : ActKind → List ℕ
act_name ActKind.Compute = codes "compute"
act_name ActKind.Raise = codes "raise"
act_name ActKind.Block = codes "block"
act_name ActKind.Enter = codes "enter"
act_name ActKind.Leave = codes "leave"

abbrev pub act_named : List ℕ → Option ActKind
act_named text = find (λ x. bytes_eq text (act_name x)) act_kinds

abbrev pub act_number : ActKind → ℕ
act_number ActKind.Compute = 0
act_number ActKind.Raise = 1
act_number ActKind.Block = 2
act_number ActKind.Enter = 3
act_number ActKind.Leave = 4

abbrev pub act_numbered : ℕ → Option ActKind
act_numbered n = find (λ x. n == act_number x) act_kinds
