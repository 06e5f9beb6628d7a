-- Steps of a host, as the machine sees them, and their answers.
use Rattle.std.specs.Prelude.{◌≡◌, ◌∷◌, if◌then◌else◌}
use Rattle.requests.specs.CommonNames.{ℕ, true, List, Option, Some, None, PlainStep}
use Rattle.step_types.specs.{Plain.UserStep, Replies.is_memory, declared.Reply.Reply}
use Rattle.requests.specs.Machine.{Machine}
use Rattle.requests.specs.Memory.{may_want}
use Rattle.requests.specs.Run.{asked_by}
use Rattle.requests.specs.View.{view}
use Rattle.requests.specs.Isolation.{reply_of, host_after, replies_to, answered, somes}

-- a step and its user
abbrev pub asked : ℕ × PlainStep → UserStep
asked s = record { uid = s.0; step = s.1 }

-- a reply, or None if memory ran out
abbrev pub reply_given : Reply → Option Reply
reply_given r = if is_memory r then None else Some r

-- the effect of a step on a host: the machine's reply and the machine's host; or, if the step takes memory and the
-- machine wouldn't refuse it, out of memory and the host as it was
abbrev pub MakesStep : Option Reply → ℕ → PlainStep → Machine → Machine → Type 0
MakesStep None u s m k = (k ≡ m) × (may_want u s m ≡ true)
MakesStep (Some r) u s m k = (r ≡ reply_of u s m) × (k ≡ host_after u s m)

-- in a run from m, only steps that take memory and aren't refused run out of memory
abbrev pub Wanting : List UserStep → List (Option Reply) → Machine → Type 0
Wanting (x ∷ xs) (None ∷ rs) m = (may_want x.uid x.step m ≡ true) × Wanting xs rs m
Wanting (x ∷ xs) (Some r ∷ rs) m = Wanting xs rs (host_after x.uid x.step m)
Wanting xs rs m = Unit {0}

-- P of the replies, if neither step ran out of memory
abbrev pub BothGiven : Option Reply → Option Reply → (Reply → Reply → Type 0) → Type 0
BothGiven (Some r) (Some q) P = P r q
BothGiven o p P = Unit {0}

-- if the answered steps of a user are the same in two runs, so are the user's replies, and the user's views afterwards
abbrev pub Agree : ℕ → List UserStep → List UserStep → List (Option Reply) → List (Option Reply) → Machine → Machine → Type 0
Agree u xs ys rs ss m k =
    asked_by u (answered xs rs) ≡ asked_by u (answered ys ss)
    → (replies_to u (answered xs rs) (somes rs) ≡ replies_to u (answered ys ss) (somes ss)) × (view u m ≡ view u k)
