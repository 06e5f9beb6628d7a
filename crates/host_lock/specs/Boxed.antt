-- Steps whose handlers are on the heap, as the steps that they mean.
use Rattle.std.specs.{Prelude.{◌≡◌, List, refl}, Global.Box}
use Rattle.{stop_handlers.specs.declared.Rule.Rule}
use Rattle.step_types.specs.{Plain.PlainStep, Plain.map_handler, declared.step.Step.Step}

abbrev pub SmallStep : Type 0
SmallStep = Step (Box (List Rule))

-- the step with its handler's policy in it
abbrev pub own_step : SmallStep → PlainStep
own_step s = map_handler (λ handler. handler.value) s

-- a step with its own handler in place of its handler
pub map_same : {A : Type 0} (s : Step A) → map_handler (λ own. own) s ≡ s
map_same Step.Spawn = refl
map_same (Step.List caller) = refl
map_same (Step.Sigaction caller sig disposition) = refl
map_same (Step.Kill caller which sig) = refl
map_same (Step.Wait4 caller which options) = refl
map_same (Step.Install caller own) = refl
map_same (Step.Handle caller) = refl
map_same (Step.Ptrace caller request target arg) = refl
map_same (Step.Turn tid act) = refl
