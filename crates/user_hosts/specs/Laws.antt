-- One machine of all users, and a machine of one view for each user.
use Rattle.std.specs.Prelude.{◌≡◌, ◌≢◌, ◌==◌, ◌∷◌, if◌then◌else◌}
use Rattle.requests.specs.CommonNames.{ℕ, List, [], length, IsUser, Settings, PlainStep, Reply}
use Rattle.step_types.specs.Plain.{UserStep}
use Rattle.requests.specs.Machine.{Machine, empty}
use Rattle.requests.specs.Run.{last, replies}
use Rattle.requests.specs.View.{View, view, with_view}
use Rattle.requests.specs.Isolation.{Apart, Users, reply_of, host_after}
use Rattle.user_hosts.specs.Hosts.{Hosts, unused, Shows, copied}

-- a step of a user, made on only that user's view; every other view stays
abbrev pub own_reply : ℕ → PlainStep → (ℕ → View) → Reply
own_reply u s views = reply_of u s (with_view u (views u))

abbrev pub own_after : ℕ → PlainStep → (ℕ → View) → ℕ → View
own_after u s views w = if w == u then view u (host_after u s (with_view u (views u))) else views w

-- lists of all users' steps, made so
abbrev pub replies_by_user : List UserStep → (ℕ → View) → List Reply
replies_by_user [] views = []
replies_by_user (a ∷ list) views = own_reply a.uid a.step views ∷ replies_by_user list (own_after a.uid a.step views)

abbrev pub views_after : List UserStep → (ℕ → View) → ℕ → View
views_after [] views = views
views_after (a ∷ list) views = views_after list (own_after a.uid a.step views)

-- one machine of all users, and a machine of one view for each, answer every list of all users' steps alike, and show
-- each user the same afterwards
abbrev pub ManyAreOne : Type 0
ManyAreOne = (list : List UserStep) (m : Machine) (views : ℕ → View) → Users list → Apart m → ((u : ℕ) → IsUser u → views u ≡ view u m)
    → (replies list m ≡ replies_by_user list views) × ((u : ℕ) → IsUser u → view u (last list m) ≡ views_after list views u)

-- unused hosts show the unused machine
abbrev pub UnusedShows : Type 0
UnusedShows = (settings : Settings) → Shows (unused settings) (empty settings)

-- hosts with a copy of one user's host show each machine that shows this user what the source shows, and all others what
-- they saw
abbrev pub CopyShows : Type 0
CopyShows = (u : ℕ) (hosts source : Hosts) (m n k : Machine) → IsUser u → length hosts.made ≡ 64 → hosts.settings ≡ source.settings
    → Shows hosts m → Shows source n → Apart k → view u k ≡ view u n → ((w : ℕ) → IsUser w → w ≢ u → view w k ≡ view w m)
    → Shows (copied u hosts source) k
