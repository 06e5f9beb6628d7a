-- The effect of a refused step, and an answer that the machine never gives.
use Rattle.std.specs.Prelude.{◌≡◌, ◌≢◌}
use Rattle.requests.specs.CommonNames.{ℕ, true, IsUser, ENOMEM, PlainStep, Reply}
use Rattle.step_types.specs.Replies.{is_listing, is_refusal}
use Rattle.requests.specs.Sound.{sound}
use Rattle.requests.specs.Step.{Machine, step}

-- a refused step changes nothing
abbrev pub RefusalChangesNothing : Type 0
RefusalChangesNothing = (u : ℕ) (s : PlainStep) (m : Machine) → IsUser u → sound m ≡ true → is_refusal (step u s m).reply ≡ true → (step u s m).machine ≡ m

-- a step that answers Nothing, as a wait or a handle does if no child has something to report, changes nothing
abbrev pub NoReportChangesNothing : Type 0
NoReportChangesNothing = (u : ℕ) (s : PlainStep) (m : Machine) → sound m ≡ true → (step u s m).reply ≡ Reply.Nothing → (step u s m).machine ≡ m

-- the machine never runs out of memory: only a host answers ENOMEM
abbrev pub NoStepRunsOutOfMemory : Type 0
NoStepRunsOutOfMemory = (u : ℕ) (s : PlainStep) (m : Machine) → (step u s m).reply ≢ Reply.Errno ENOMEM

-- a step that answers a list changes nothing
abbrev pub ListingSame : Type 0
ListingSame = (u : ℕ) (s : PlainStep) (m : Machine) → sound m ≡ true → is_listing (step u s m).reply ≡ true → (step u s m).machine ≡ m
