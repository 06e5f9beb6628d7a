-- A host, as the machine sees it, and its step.
use Rattle.std.specs.Prelude.{◌≡◌, ◌≢◌}
use Rattle.requests.specs.CommonNames.{ℕ, true, List, ENOMEM, Table, Settings, Reply, PlainStep}
use Rattle.requests.specs.Memory.{may_want}
use Rattle.step_types.specs.Replies.{is_refusal}
use Rattle.requests.specs.Sound.{sound}
use Rattle.requests.specs.Step.{Machine, Installed, step}

abbrev pub machine_of : Settings → Table → List (List Installed) → Machine
machine_of settings t installed = record { rows = t.rows; installed = installed; settings = settings }

-- the host after a step of a user, and the reply: those of the machine; or, if the step takes memory and the machine
-- wouldn't refuse it, ENOMEM and the host as it was
pub record Steps (u : ℕ) (s : PlainStep) (m n : Machine) (r : Reply) : Type 0 where
  pub machine : r ≢ Reply.Errno ENOMEM → (n ≡ (step u s m).machine) × (r ≡ (step u s m).reply)
  pub memory : r ≡ Reply.Errno ENOMEM → (n ≡ m) × (may_want u s m ≡ true)
  pub refused : is_refusal r ≡ true → n ≡ m
  pub sound : sound n ≡ true
