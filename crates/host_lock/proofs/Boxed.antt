-- The forms of a step.
use Rattle.host_lock.proofs.CommonNames.{ℕ, List, Some, Machine, Reply}
use Rattle.std.specs.Prelude.{None}
use Rattle.requests.specs.Hosts.{Steps}
use Rattle.requests.specs.Making.{Makes}
use Rattle.step_types.specs.{Plain.map_handler, Plain.with_handler, declared.step.Step.Step}
use Rattle.stop_handlers.specs.declared.Rule.{Rule}

-- a step that a host made without a handler installs none
pub made_mapped : {A : Type 0} (f : A → List Rule) (u : ℕ) (s : Step A) (m n : Machine) (r : Reply) → Makes u (with_handler {B = List Rule} None s) m n (Some r) → Steps u (map_handler f s) m n r
made_mapped f u Step.Spawn m n r made = made
made_mapped f u (Step.List caller) m n r made = made
made_mapped f u (Step.Sigaction caller sig disposition) m n r made = made
made_mapped f u (Step.Kill caller which sig) m n r made = made
made_mapped f u (Step.Wait4 caller which options) m n r made = made
made_mapped f u (Step.Install caller own) m n r made = absurd (cc)
made_mapped f u (Step.Handle caller) m n r made = made
made_mapped f u (Step.Ptrace caller request target arg) m n r made = made
made_mapped f u (Step.Turn tid act) m n r made = made
