-- A step of a scenario, from its JSON value. Its keys are checked one by one, and the first failure is the flaw.
use Rattle.scenario_text.specs.CommonNames.{ℕ, List, [], Option, Result, Ok, Err, codes, Data, Members, object, get_member, PlainStep, Call, Act, Request, no_options, UserStep, Rule, Fields, KeyError, Shape, User}
use Rattle.scenario_text.specs.CommonNames.{Number, Keys, ActKind, CallKind, StepKind, op_named, disposition_named, act_named, call_named, request_named}
use Rattle.scenario_text.specs.Fields.{◌>>=◌, Atom, atom_of, integer, within, word, name_in, required, optional, options_of, mask_of, set_of}
use Rattle.scenario_text.specs.{Keys.◌∪◌, Keys.keys_in, Keys.with_only, Rules.rules_of}
use Rattle.step_types.specs.declared.step.Step.TheVariants as plain
use Rattle.event_masks.specs.declared.Call.TheVariants as call
use Rattle.step_types.specs.declared.Act.TheVariants as act
use Rattle.step_types.specs.declared.Request.TheVariants as request
use Rattle.scenario_text.specs.declared.keys.TheConstants.Keys as key
use Rattle.step_types.specs.declared.ActKind.TheVariants as acts
use Rattle.event_masks.specs.declared.CallKind.TheVariants as calls
use Rattle.step_types.specs.declared.step.StepKind.TheVariants as ops

abbrev pub user_in : Atom → Result ℕ KeyError
user_in a = integer a >>= within 1001 1064 User

-- what an atom at a key comes to
abbrev pub atom_at : {X : Type 0} → (Atom → Result X KeyError) → Option Data → Result X KeyError
atom_at reading = required (λ d. reading (atom_of d))

-- what the keys of a step say, by the values that they have
abbrev pub fields_by : (List ℕ → Option Data) → Keys → Fields
fields_by at keys = record {
  keys = keys;
  user = atom_at user_in (at (codes "user"));
  op = atom_at (name_in op_named) (at (codes "op"));
  caller = atom_at word (at (codes "caller"));
  which = atom_at integer (at (codes "which"));
  options = optional no_options options_of (at (codes "options"));
  signal = atom_at word (at (codes "signal"));
  action = atom_at (name_in disposition_named) (at (codes "action"));
  rules = required rules_of (at (codes "rules"));
  lwp = atom_at word (at (codes "lwp"));
  act = atom_at (name_in act_named) (at (codes "act"));
  call = atom_at (name_in call_named) (at (codes "call"));
  code = atom_at integer (at (codes "code"));
  set = required set_of (at (codes "set"));
  request = atom_at (name_in request_named) (at (codes "request"));
  target = atom_at word (at (codes "target"));
  «data» = optional 0 (λ d. word (atom_of d)) (at (codes "data"));
  mask = required mask_of (at (codes "mask"));
}

abbrev pub fields_in : Members → Fields
fields_in ms = fields_by (λ k. get_member k ms) (keys_in ms)

-- the policy of the rules, and none of flawed ones
abbrev pub policy_in : Result (List Rule) KeyError → List Rule
policy_in (Ok policy) = policy
policy_in (Err flaw) = []

-- ---- turns

-- the keys that every turn has
abbrev pub turn_keys : Keys
turn_keys = key.USER ∪ key.OP ∪ key.LWP ∪ key.ACT

-- the code of an exit is its exit status, the code of another call is its number
abbrev pub call_of : CallKind → Fields → Result Call KeyError
call_of calls.Exit f = f.code >>= within 0 255 Number >>= (λ code. Ok (call.Exit code))
call_of calls.Fork f = Ok call.Fork
call_of calls.Exec f = Ok call.Exec
call_of calls.Vfork f = Ok call.Vfork
call_of calls.ThrExit f = Ok call.ThrExit
call_of calls.ThrNew f = Ok call.ThrNew
call_of calls.Other f = f.code >>= within 0 4294967295 Number >>= (λ code. Ok (call.Other code))

-- the keys of a turn that enters such a call
abbrev pub call_keys : CallKind → Keys
call_keys calls.Exit = turn_keys ∪ key.CALL ∪ key.CODE
call_keys calls.Other = turn_keys ∪ key.CALL ∪ key.CODE
call_keys kind = turn_keys ∪ key.CALL

-- the act of an LWP at its turn
abbrev pub act_of : ActKind → Fields → Result Act KeyError
act_of acts.Compute f = with_only turn_keys f.keys act.Compute
act_of acts.Leave f = with_only turn_keys f.keys act.Leave
act_of acts.Raise f = f.signal >>= (λ signal. with_only (turn_keys ∪ key.SIGNAL) f.keys (act.Raise signal))
act_of acts.Block f = f.set >>= (λ set. with_only (turn_keys ∪ key.SET) f.keys (act.Block set))
act_of acts.Enter f = do
  kind ← f.call
  call ← call_of kind f
  with_only (call_keys kind) f.keys (act.Enter call)

-- ---- requests of ptrace(2)

-- the keys that every ptrace step has
abbrev pub ptrace_keys : Keys
ptrace_keys = key.USER ∪ key.OP ∪ key.CALLER ∪ key.REQUEST

-- the requests but two
unfoldable pub request_of : ℕ → Request → Fields → Result PlainStep KeyError
request_of caller r f = do
  target ← f.target
  «data» ← f.«data»
  with_only (ptrace_keys ∪ key.TARGET ∪ key.DATA) f.keys (plain.Ptrace caller r target «data»)

-- PT_TRACE_ME names no other process
abbrev pub asked_of : ℕ → Request → Fields → Result PlainStep KeyError
asked_of caller request.TraceMe f = with_only ptrace_keys f.keys (plain.Ptrace caller request.TraceMe 0 0)
asked_of caller request.SetEventMask f = do
  target ← f.target
  mask ← f.mask
  with_only (ptrace_keys ∪ key.TARGET ∪ key.MASK) f.keys (plain.Ptrace caller request.SetEventMask target mask.0)
asked_of caller r f = request_of caller r f

-- ---- steps

-- the step of an op; its keys are checked one by one
unfoldable pub rest_of : StepKind → Fields → Result PlainStep KeyError
rest_of ops.Spawn f = with_only (key.USER ∪ key.OP) f.keys plain.Spawn
rest_of ops.Ptrace f = do
  caller ← f.caller
  request ← f.request
  asked_of caller request f
rest_of ops.Wait4 f = do
  caller ← f.caller
  which ← f.which
  options ← f.options
  with_only (key.USER ∪ key.OP ∪ key.CALLER ∪ key.WHICH ∪ key.OPTIONS) f.keys (plain.Wait4 caller which options)
rest_of ops.Kill f = do
  caller ← f.caller
  which ← f.which
  signal ← f.signal
  with_only (key.USER ∪ key.OP ∪ key.CALLER ∪ key.WHICH ∪ key.SIGNAL) f.keys (plain.Kill caller which signal)
rest_of ops.Sigaction f = do
  caller ← f.caller
  signal ← f.signal
  disposition ← f.action
  with_only (key.USER ∪ key.OP ∪ key.CALLER ∪ key.SIGNAL ∪ key.ACTION) f.keys (plain.Sigaction caller signal disposition)
rest_of ops.List f = f.caller >>= (λ caller. with_only (key.USER ∪ key.OP ∪ key.CALLER) f.keys (plain.List caller))
rest_of ops.Install f = do
  caller ← f.caller
  rules ← f.rules
  with_only (key.USER ∪ key.OP ∪ key.CALLER ∪ key.RULES) f.keys (plain.Install caller rules)
rest_of ops.Handle f = f.caller >>= (λ caller. with_only (key.USER ∪ key.OP ∪ key.CALLER) f.keys (plain.Handle caller))
rest_of ops.Turn f = do
  lwp ← f.lwp
  kind ← f.act
  act ← act_of kind f
  Ok (plain.Turn lwp act)

unfoldable pub step_from : Fields → Result UserStep KeyError
step_from f = do
  user ← f.user
  op ← f.op
  step ← rest_of op f
  Ok (record { uid = user; step = step })

abbrev pub step_of : Data → Result UserStep KeyError
step_of (object ms) = step_from (fields_in ms)
step_of d = Err Shape
