-- A step with its handler's policy.
use Rattle.std.specs.Prelude.{ℕ, Bool, true, false, List, [], Option, Some, None, option_map}
use Rattle.stop_handlers.specs.declared.Rule.{Rule}
use Rattle.step_types.specs.declared.step.Step.{Step}

abbrev pub PlainStep : Type 0
PlainStep = Step (List Rule)

-- the step with another handler in place of its own, if it installs one
abbrev pub with_handler : {A : Type 0} {B : Type 0} → Option B → Step A → Option (Step B)
with_handler handler Step.Spawn = Some Step.Spawn
with_handler handler (Step.List caller) = Some (Step.List caller)
with_handler handler (Step.Sigaction caller sig disposition) = Some (Step.Sigaction caller sig disposition)
with_handler handler (Step.Kill caller which sig) = Some (Step.Kill caller which sig)
with_handler handler (Step.Wait4 caller which options) = Some (Step.Wait4 caller which options)
with_handler handler (Step.Install caller own) = option_map (Step.Install caller) handler
with_handler handler (Step.Handle caller) = Some (Step.Handle caller)
with_handler handler (Step.Ptrace caller request target arg) = Some (Step.Ptrace caller request target arg)
with_handler handler (Step.Turn tid act) = Some (Step.Turn tid act)

-- the step with what f makes of its handler, if it installs one
abbrev pub map_handler : {A : Type 0} {B : Type 0} → (A → B) → Step A → Step B
map_handler f Step.Spawn = Step.Spawn
map_handler f (Step.List caller) = Step.List caller
map_handler f (Step.Sigaction caller sig disposition) = Step.Sigaction caller sig disposition
map_handler f (Step.Kill caller which sig) = Step.Kill caller which sig
map_handler f (Step.Wait4 caller which options) = Step.Wait4 caller which options
map_handler f (Step.Install caller own) = Step.Install caller (f own)
map_handler f (Step.Handle caller) = Step.Handle caller
map_handler f (Step.Ptrace caller request target arg) = Step.Ptrace caller request target arg
map_handler f (Step.Turn tid act) = Step.Turn tid act

-- the step without what it installs
abbrev pub bare : {A : Type 0} → Step A → PlainStep
bare s = map_handler (λ own. []) s

-- the process number that a step names as its caller; spawns and turns have none
abbrev pub caller_of : PlainStep → Option ℕ
caller_of (Step.List caller) = Some caller
caller_of (Step.Sigaction caller s d) = Some caller
caller_of (Step.Kill caller which s) = Some caller
caller_of (Step.Wait4 caller which options) = Some caller
caller_of (Step.Install caller policy) = Some caller
caller_of (Step.Handle caller) = Some caller
caller_of (Step.Ptrace caller r target arg) = Some caller
caller_of s = None

-- whether a step installs a handler
abbrev pub installs : PlainStep → Bool
installs (Step.Install caller policy) = true
installs s = false

-- a step and its user
pub record UserStep : Type 0 where
  pub uid : ℕ
  pub step : PlainStep
