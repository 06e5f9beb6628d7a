-- The line of a step: its keys in the order of docs/FORMAT.md. A key whose value is that of a missing key is left out.
use Rattle.std.specs.Prelude.{⊤, ℕ, ℤ, ◌<◌, ◌≤◌, ◌^◌, length, ◌==◌, ◌||◌, List, [], ◌∷◌, ◌++◌, codes, map, Option, Some, None, if◌then◌else◌}
use Rattle.std.specs.{Borrow.Bor, Fmt.signed_decimal}
use Rattle.json.specs.Value.{items_of}
use Rattle.signals.specs.{Sets.members, Dispositions.disposition_name}
use Rattle.event_masks.specs.{Names.{event_table, stop_table, names_of}, Calls.{call_name, kind_of_call}, declared.Call.Call}
use Rattle.event_masks.specs.declared.Call.TheVariants as call
use Rattle.stop_handlers.specs.{Decisions.{decision_name, kind_of_decision}, declared.{Decision.Decision, Rule.Rule}}
use Rattle.step_types.specs.{Plain.{PlainStep, UserStep, bare, caller_of}, Names.{kind_of_step, op_name, request_name, kind_of_act, act_name}}
use Rattle.step_types.specs.declared.{Act.Act, Options.Options, Request.Request, step.Step.Step}
use Rattle.step_types.specs.declared.Act.TheVariants as act
use Rattle.step_types.specs.declared.Request.TheVariants as request
use Rattle.step_types.specs.declared.step.Step.TheVariants as steps
use Rattle.reply_json.specs.Objects.{Json, json_text, array, number, string, Member, object_of, natural, nonzero_member, numbers_of, strings_of}
use Rattle.open_sessions.specs.Flat.{passed}
use Rattle.stop_handlers.specs.declared.Decision.TheVariants as decision
use lib.Signed.{mag}

abbrev pub integer : ℤ → Json
integer z = number (signed_decimal z)

-- ---- ptrace(2) and wait4(2)

unfoldable pub request_keys : Request → ℕ → ℕ → List Member
request_keys request.TraceMe target arg = (codes "request", string (request_name request.TraceMe)) ∷ []
request_keys request.SetEventMask target arg =
    (codes "request", string (request_name request.SetEventMask)) ∷ (codes "target", natural target) ∷ (codes "mask", strings_of (names_of event_table arg)) ∷ []
request_keys r target arg =
    (codes "request", string (request_name r)) ∷ (codes "target", natural target) ∷ nonzero_member (codes "data") arg

-- the options that change what a wait reports
unfoldable pub option_names : Options → List (List ℕ)
option_names o = (if o.untraced then codes "WUNTRACED" ∷ [] else []) ++ (if o.continued then codes "WCONTINUED" ∷ [] else [])

unfoldable pub options_key : Options → List Member
options_key o = if o.untraced || o.continued then (codes "options", strings_of (option_names o)) ∷ [] else []

-- ---- rules

unfoldable pub signal_key : Option ℕ → List Member
signal_key None = []
signal_key (Some s) = (codes "signal", natural s) ∷ []

unfoldable pub flags_key : ℕ → List Member
flags_key flags = if flags == 0 then [] else (codes "flags", strings_of (names_of stop_table flags)) ∷ []

unfoldable pub decision_keys : Decision → List Member
decision_keys d = (codes "decision", string (decision_name (kind_of_decision d))) ∷ nonzero_member (codes "pass") (passed d)

unfoldable pub rule_keys : Rule → List Member
rule_keys r = signal_key r.signal ++ (flags_key r.flags.0 ++ decision_keys r.decision)

unfoldable pub rules_key : Option (List Rule) → List Member
rules_key None = []
rules_key (Some policy) = (codes "rules", array (items_of (map (λ r. object_of (rule_keys r)) policy))) ∷ []

-- ---- turns

unfoldable pub code_key : Call → List Member
code_key (call.Exit code) = (codes "code", natural code) ∷ []
code_key (call.Other code) = (codes "code", natural code) ∷ []
code_key c = []

unfoldable pub act_keys : Act → List Member
act_keys (act.Raise signal) = (codes "signal", natural signal) ∷ []
act_keys (act.Block set) = (codes "set", numbers_of (members set)) ∷ []
act_keys (act.Enter c) = (codes "call", string (call_name (kind_of_call c))) ∷ code_key c
act_keys a = []

-- ---- steps

unfoldable pub caller_key : Option ℕ → List Member
caller_key None = []
caller_key (Some caller) = (codes "caller", natural caller) ∷ []

-- the keys of an op after its caller; an install has those of the policy
unfoldable pub op_keys : {A : Type 0} → Step A → Option (List Rule) → List Member
op_keys (steps.Sigaction caller signal action) policy = (codes "signal", natural signal) ∷ (codes "action", string (disposition_name action)) ∷ []
op_keys (steps.Kill caller which signal) policy = (codes "which", integer which) ∷ (codes "signal", natural signal) ∷ []
op_keys (steps.Wait4 caller which options) policy = (codes "which", integer which) ∷ options_key options
op_keys (steps.Install caller own) policy = rules_key policy
op_keys (steps.Ptrace caller r target arg) policy = request_keys r target arg
op_keys (steps.Turn lwp a) policy = (codes "lwp", natural lwp) ∷ (codes "act", string (act_name (kind_of_act a))) ∷ act_keys a
op_keys s policy = []

-- the keys of a step with the policy that it installs
unfoldable pub step_keys : {A : Type 0} → Step A → Option (List Rule) → List Member
step_keys s policy = (codes "op", string (op_name (kind_of_step (bare s)))) ∷ (caller_key (caller_of (bare s)) ++ op_keys s policy)

-- PT_TRACE_ME of ptrace(2) ignores the process and the data, so its line has neither; any other step is its line's
abbrev pub as_line : PlainStep → PlainStep
as_line (steps.Ptrace caller request.TraceMe target arg) = steps.Ptrace caller request.TraceMe 0 0
as_line s = s

-- a policy behind a reference
abbrev pub borrowed : Option (Bor (List Rule)) → Option (List Rule)
borrowed None = None
borrowed (Some policy) = Some policy.now

abbrev pub policy_of : PlainStep → Option (List Rule)
policy_of (steps.Install caller policy) = Some policy
policy_of s = None

abbrev pub line_value : UserStep → Json
line_value a = object_of ((codes "user", natural a.uid) ∷ step_keys a.step (policy_of a.step))

-- the line, without its line feed
abbrev pub line_of : UserStep → List ℕ
line_of a = json_text (line_value a)

-- ---- the steps that lines are

-- a signal to pass on, or 0
abbrev pub HasPass : Decision → Type 0
HasPass (decision.Continue signal) = signal ≤ 31
HasPass (decision.Detach signal) = signal ≤ 31
HasPass d = ⊤

abbrev pub IsOptional : Option ℕ → Type 0
IsOptional None = ⊤
IsOptional (Some signal) = (1 ≤ signal) × (signal ≤ 31)

pub record IsRule (r : Rule) : Type 0 where
  pub signal : IsOptional r.signal
  pub flags : r.flags.0 < 512
  pub pass : HasPass r.decision

abbrev pub AllRules : List Rule → Type 0
AllRules [] = ⊤
AllRules (r ∷ rs) = IsRule r × AllRules rs

abbrev pub IsAct : Act → Type 0
IsAct (act.Raise signal) = signal < 2 ^ 32
IsAct (act.Block set) = set < 2 ^ 31
IsAct (act.Enter (call.Exit code)) = code ≤ 255
IsAct (act.Enter (call.Other code)) = code < 2 ^ 32
IsAct a = ⊤

-- the flags of each rule have names
abbrev pub HaveNames : List Rule → Type 0
HaveNames [] = ⊤
HaveNames (r ∷ rs) = (r.flags.0 < 512) × HaveNames rs

-- a mask of PT_SET_EVENT_MASK has no bits but those of events, and the flags of a rule are those of PT_LWPINFO
abbrev pub HasNames : PlainStep → Type 0
HasNames (steps.Ptrace caller request.SetEventMask target mask) = mask < 64
HasNames (steps.Install caller policy) = HaveNames policy
HasNames s = ⊤

-- the step has names, and its numbers are those of its types
abbrev pub HasLine : PlainStep → Type 0
HasLine steps.Spawn = ⊤
HasLine (steps.List caller) = caller < 2 ^ 32
HasLine (steps.Sigaction caller signal action) = (caller < 2 ^ 32) × (signal < 2 ^ 32)
HasLine (steps.Kill caller which signal) = (caller < 2 ^ 32) × (mag which < 2 ^ 63) × (signal < 2 ^ 32)
HasLine (steps.Wait4 caller which options) = (caller < 2 ^ 32) × (mag which < 2 ^ 63)
HasLine (steps.Install caller policy) = (caller < 2 ^ 32) × (length policy ≤ 16) × AllRules policy
HasLine (steps.Handle caller) = caller < 2 ^ 32
HasLine (steps.Ptrace caller request.SetEventMask target mask) = (caller < 2 ^ 32) × (target < 2 ^ 32) × (mask < 64)
HasLine (steps.Ptrace caller r target arg) = (caller < 2 ^ 32) × (target < 2 ^ 32) × (arg < 2 ^ 32)
HasLine (steps.Turn lwp a) = (lwp < 2 ^ 32) × IsAct a
