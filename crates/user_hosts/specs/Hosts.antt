-- A host for each user, and what it has to do with one host of all users.
use Rattle.std.specs.Prelude.{◌≡◌, ◌≢◌, ◌++◌, ◌-◌, length, replicate}
use Rattle.requests.specs.CommonNames.{ℕ, true, List, Option, Some, None, map, set, get_or, slot, users, IsUser, Settings, PlainStep, Reply}
use Rattle.step_types.specs.Replies.{is_refusal}
use Rattle.requests.specs.Machine.{Machine, empty}
use Rattle.requests.specs.View.{view}
use Rattle.requests.specs.Isolation.{Apart}
use Rattle.requests.specs.Hosts.{Steps as HostSteps}

-- the host of each of the 64 users in order, if there is one, and the settings of all
pub record Hosts : Type 0 where
  pub settings : Settings
  pub made : List (Option Machine)

-- no host for the users after the last of these
abbrev pub padded : List (Option Machine) → List (Option Machine)
padded made = made ++ replicate (64 - length made) None

abbrev pub unused : Settings → Hosts
unused settings = record { settings = settings; made = map (λ u. None) users }

abbrev pub made_of : ℕ → Hosts → Option Machine
made_of u hosts = get_or hosts.made (slot u) None

-- a user without a host has an unused one
abbrev pub host_or : Settings → Option Machine → Machine
host_or settings None = empty settings
host_or settings (Some m) = m

abbrev pub host_of : ℕ → Hosts → Machine
host_of u hosts = host_or hosts.settings (made_of u hosts)

-- each user's host shows the user what this machine of all users shows the user
pub record Shows (hosts : Hosts) (m : Machine) : Type 0 where
  pub apart : Apart m
  pub same : (u : ℕ) → IsUser u → view u (host_of u hosts) ≡ view u m

-- a step of a user, and its reply: the user's host makes it, and no other host changes; a refused step changes nothing
pub record Steps (u : ℕ) (s : PlainStep) (old new : Hosts) (r : Reply) : Type 0 where
  pub own : HostSteps u s (host_of u old) (host_of u new) r
  pub others : (w : ℕ) → IsUser w → w ≢ u → made_of w new ≡ made_of w old
  pub settings : new.settings ≡ old.settings
  pub refused : is_refusal r ≡ true → new ≡ old

-- the same of a step that may need a handler, if none is given; one that needs a handler is not made
abbrev pub MakesIn : ℕ → Option PlainStep → (old new : Hosts) → Option Reply → Type 0
MakesIn u None old new r = (r ≡ None) × (new ≡ old)
MakesIn u (Some s) old new None = ⊥
MakesIn u (Some s) old new (Some r) = Steps u s old new r

-- the hosts with the source's host of one user
abbrev pub copied : ℕ → Hosts → Hosts → Hosts
copied u hosts source = record hosts { made = set hosts.made (slot u) (made_of u source) }
