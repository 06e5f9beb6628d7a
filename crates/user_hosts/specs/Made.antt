-- What the hosts of all users have made together, and the machine of all users that they show.
use Rattle.std.specs.Prelude.{◌≡◌, ◌≢◌, ◌==◌, ◌∷◌, ◌++◌, if◌then◌else◌, refl}
use Rattle.std.specs.Coded.{Coded, code_by, coded_list, coded_ℕ, coded×}
use Rattle.stop_handlers.specs.contracts.Policy as Policy
use Rattle.step_types.specs.contracts.step.Step as Step
use Rattle.step_types.specs.Plain.{UserStep}
use Rattle.requests.specs.CommonNames.{ℕ, not, List, [], Option, Some, None, filter, AllByRecursion, IsUser, is_memory, Settings, PlainStep, Reply}
use Rattle.requests.specs.Machine.{Machine, empty}
use Rattle.requests.specs.Run.{last, asked_by}
use Rattle.requests.specs.Laws.{IsStep}
use Rattle.requests.specs.View.{view}
use Rattle.user_hosts.specs.Hosts.{Hosts, Shows}

-- in order, the steps that were made and are these hosts' own
abbrev pub Made : Type 0
Made = List UserStep

abbrev pub machine_after : Settings → Made → Machine
machine_after settings made = last made (empty settings)

-- with one more step, unless it ran out of memory
abbrev pub one_more : ℕ → PlainStep → Reply → Made → Made
one_more u s r made = if is_memory r then made else made ++ (record { uid = u; step = s } ∷ [])

-- the same of a step that may need a handler, if none is given
abbrev pub one_more_without_handler : ℕ → Option PlainStep → Option Reply → Made → Made
one_more_without_handler u None r made = made
one_more_without_handler u (Some s) None made = made
one_more_without_handler u (Some s) (Some r) made = one_more u s r made

-- the other users' steps, and then this user's steps of another list
abbrev pub with_user : ℕ → (made source : Made) → Made
with_user u made source = filter (λ a. not (a.uid == u)) made ++ asked_by u source

-- how the logic stores such a list
abbrev pub made_code : Coded Made
made_code = coded_list (code_by (ℕ × PlainStep) (coded× coded_ℕ (Step.the_row Policy.the_row).coded) (λ a. (a.uid, a.step)) (λ p. record { uid = p.0; step = p.1 }) (λ _. refl))

-- the hosts show the machine after what was made
pub record Kept (hosts : Hosts) (made : Made) : Type 0 where
  pub shows : Shows hosts (machine_after hosts.settings made)
  pub steps : AllByRecursion IsStep made
  pub settings : (machine_after hosts.settings made).settings ≡ hosts.settings

-- ---- what a copy of one user leaves

-- the user sees what the source shows, and all others what they saw
pub record CopiesUser (u : ℕ) (old source new : Machine) : Type 0 where
  pub own : view u new ≡ view u source
  pub others : (w : ℕ) → IsUser w → w ≢ u → view w new ≡ view w old
