-- Lists of all users' steps that differ in numbers that a user doesn't see.
use Rattle.std.specs.Prelude.{◌≡◌, ◌∷◌}
use Rattle.requests.specs.CommonNames.{ℕ, List, [], Option, IsUser, visible_process, seen_lwp}
use Rattle.step_types.specs.{Plain.UserStep, declared.Reply.Reply}
use Rattle.requests.specs.Machine.{Machine}
use Rattle.requests.specs.Run.{last, replies, asked_by}
use Rattle.requests.specs.View.{view, alone}
use Rattle.requests.specs.Isolation.{Apart, Users, replies_to, host_after, AlikeSteps, answered, somes}

-- two lists of a user's own steps, made from m on: the steps at each place differ only in numbers that the user doesn't
-- see there
abbrev pub AlikeLists : ℕ → List UserStep → List UserStep → Machine → Type 0
AlikeLists u [] [] m = Unit {0}
AlikeLists u (x ∷ xs) (y ∷ ys) m = AlikeSteps u m x.step y.step × AlikeLists u xs ys (host_after u x.step m)
AlikeLists u xs ys m = ⊥

-- two lists of all users' steps, from hosts that show the user the same: if the user's own steps differ only in
-- such numbers, the user's replies and the user's views at the end are the same
abbrev pub ForeignNumbers : Type 0
ForeignNumbers = (m k : Machine) (u : ℕ) (xs ys : List UserStep) → IsUser u → Users xs → Users ys → Apart m → Apart k → view u m ≡ view u k
    → AlikeLists u (asked_by u xs) (asked_by u ys) (alone u m)
    → (replies_to u xs (replies xs m) ≡ replies_to u ys (replies ys k)) × (view u (last xs m) ≡ view u (last ys k))

-- the same numbers are alike
abbrev pub SameIsAlike : Type 0
SameIsAlike = (m : Machine) (u : ℕ) (xs : List UserStep) → AlikeLists u xs xs m

-- which numbers a user sees depends only on the user's view
abbrev pub SeenByView : Type 0
SeenByView = (m k : Machine) (u n : ℕ) → IsUser u → Apart m → Apart k → view u m ≡ view u k
    → (visible_process u n m.rows ≡ visible_process u n k.rows) × (seen_lwp u n m.rows ≡ seen_lwp u n k.rows)

-- two runs from m on, in which some steps ran out of memory: if the user's answered steps differ only in such numbers,
-- the user's replies are the same, and so are the user's views of the hosts k and n afterwards
abbrev pub AgreeAlike : ℕ → Machine → List UserStep → List UserStep → List (Option Reply) → List (Option Reply) → Machine → Machine → Type 0
AgreeAlike u m xs ys rs ss k n =
    AlikeLists u (asked_by u (answered xs rs)) (asked_by u (answered ys ss)) (alone u m)
    → (replies_to u (answered xs rs) (somes rs) ≡ replies_to u (answered ys ss) (somes ss)) × (view u k ≡ view u n)
