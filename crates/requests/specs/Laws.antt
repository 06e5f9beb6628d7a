-- The invariant that every step keeps.
use Rattle.std.specs.Prelude.{◌≡◌}
use Rattle.requests.specs.CommonNames.{ℕ, Bool, true, List, AllByRecursion, IsUser, status_fits, Act, PlainStep, Step, Settings}
use Rattle.requests.specs.Run.{last}
use Rattle.step_types.specs.Plain.{UserStep}
use Rattle.requests.specs.Sound.{sound}
use Rattle.requests.specs.Step.{Machine, empty, step}

-- whether a step's numbers fit their types: the status of an exit that is entered is a byte
abbrev pub act_fits : Act → Bool
act_fits (Act.Enter call) = status_fits call
act_fits a = true

abbrev pub step_fits : PlainStep → Bool
step_fits (Step.Turn tid a) = act_fits a
step_fits s = true

-- every step of every user keeps a host sound
abbrev pub SoundKept : Type 0
SoundKept = (u : ℕ) → IsUser u → (s : PlainStep) → step_fits s ≡ true → (m : Machine) → sound m ≡ true → sound (step u s m).machine ≡ true

-- a step of one of the 64 users
abbrev pub IsStep : UserStep → Type 0
IsStep a = IsUser a.uid × (step_fits a.step ≡ true)

-- every list of steps does so
abbrev pub SoundRuns : Type 0
SoundRuns = (list : List UserStep) (m : Machine) → AllByRecursion IsStep list → sound m ≡ true → sound (last list m) ≡ true

-- an unused host is sound
abbrev pub SoundAtFirst : Type 0
SoundAtFirst = (settings : Settings) → sound (empty settings) ≡ true
