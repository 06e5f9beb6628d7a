-- The machine after what the hosts of all users have made.
use Rattle.requests.proofs.CommonNames.{◌≡◌, ◌≢◌, ℕ, Bool, true, false, not, ◌==◌, if◌then◌else◌, List, [], ◌∷◌, ◌++◌, Option, Some, None, filter, append-nil, length, refl, sym, ap, ap₂, ◌∙◌, inl, inr, arith, nat_tests, AllByRecursion, IsUser, PlainStep, Reply, Settings, Machine, empty, sound}
use Rattle.std.proofs.lemmas.List.Elements.{filter-append}
use Rattle.std.specs.Prelude.{IfSome}
use Rattle.std.proofs.lemmas.Bool.Decides.{eqb_tells}
use Rattle.step_types.specs.Plain.{UserStep}
use Rattle.step_types.specs.Replies.{is_memory}
use Rattle.step_types.proofs.Replies.{cases_memory, other}
use Rattle.requests.specs.CommonNames.{ENOMEM}
use Rattle.requests.specs.Hosts.{Steps as HostSteps}
use Rattle.requests.specs.Isolation.{Users, host_after}
use Rattle.requests.specs.Laws.{IsStep, step_fits}
use Rattle.requests.specs.Run.{last, asked_by}
use Rattle.requests.specs.View.{view}
use Rattle.requests.proofs.HostSteps.{from_machine}
use Rattle.requests.proofs.IsolationLaws.{other_step}
use Rattle.requests.proofs.SoundAfterSpawn.{empty_sound}
use Rattle.requests.proofs.SoundHostIsApart.{users_are_apart_in_a_sound_host}
use Rattle.requests.proofs.StaysSound.{sound_runs}
use Rattle.visibility.proofs.Apart.{own_list_law, users_are_apart_at_first}
use Rattle.requests.specs.Making.{Makes}
use Rattle.user_hosts.specs.Hosts.{Hosts, Steps, MakesIn, unused, host_of, copied}
use Rattle.user_hosts.specs.Made.{Made, Kept, CopiesUser, machine_after, one_more, one_more_without_handler, with_user}
use Rattle.user_hosts.proofs.Shown.{Answers, answers, unused_shows, copy_shows}

-- ---- one more

last_more : (xs : List UserStep) (a : UserStep) (m : Machine) → last (xs ++ (a ∷ [])) m ≡ host_after a.uid a.step (last xs m)
last_more [] a m = refl
last_more (x ∷ xs) a m = last_more xs a (host_after x.uid x.step m)

all_append : (xs ys : List UserStep) → AllByRecursion IsStep xs → AllByRecursion IsStep ys → AllByRecursion IsStep (xs ++ ys)
all_append [] ys all more = more
all_append (x ∷ xs) ys all more = (all.0, all_append xs ys all.1 more)

-- ---- what is kept

pub kept_at_first : (settings : Settings) → Kept (unused settings) []
kept_at_first settings = record { shows = unused_shows settings; steps = tt; settings = refl }

made_sound : (settings : Settings) (made : Made) → AllByRecursion IsStep made → sound (machine_after settings made) ≡ true
made_sound settings made steps = sound_runs made (empty settings) steps (empty_sound settings)

-- another user sees the same settings after a step
keeps_settings : (m : Machine) (u : ℕ) (s : PlainStep) → IsUser u → sound m ≡ true → (host_after u s m).settings ≡ m.settings
keeps_settings m u s user is = elim (eqb_tells u 1001) [
  | inl h ↦ ap (λ v. v.settings) (other_step m 1002 u s (omega arith, omega arith) user (omega (arith, h.1)) (users_are_apart_in_a_sound_host m is))
  | inr h ↦ ap (λ v. v.settings) (other_step m 1001 u s (omega arith, omega arith) user (λ same. h.1 (sym same)) (users_are_apart_in_a_sound_host m is))
]

module _ (u : ℕ) (s : PlainStep) (old new : Hosts) (made : Made) (r : Reply) (user : IsUser u) (fits : step_fits s ≡ true) (is : sound (host_of u old) ≡ true)
    (kept : Kept old made) (steps : Steps u s old new r) where
  abbrev a : UserStep
  a = record { uid = u; step = s }

  abbrev m : Machine
  m = machine_after old.settings made

  abbrev after : Made
  after = one_more u s r made

  sound_now : sound m ≡ true
  sound_now = made_sound old.settings made kept.steps

  told : Answers u s old new r m
  told = answers u s old new r user is steps m kept.shows

  some : is_memory r ≡ false → after ≡ made ++ (a ∷ [])
  some e = ap (λ b. if b then made else made ++ (a ∷ [])) e

  none : r ≡ Reply.Errno ENOMEM → after ≡ made
  none e = ap (λ r. one_more u s r made) e

  after_step : is_memory r ≡ false → machine_after new.settings after ≡ host_after u s m
  after_step e = ap (λ settings. machine_after settings after) steps.settings ∙ ap (machine_after old.settings) (some e) ∙ last_more made a (empty old.settings)

  after_memory : r ≡ Reply.Errno ENOMEM → machine_after new.settings after ≡ m
  after_memory e = ap (λ settings. machine_after settings after) steps.settings ∙ ap (machine_after old.settings) (none e)

  -- the hosts show the machine after the step
  pub kept_after : Kept new after
  kept_after = elim (cases_memory r) [
    | inl e ↦ rw ((told.memory e).0, none e) kept
    | inr e ↦ record {
      shows = rw (after_step e) (told.machine (other r e)).1;
      steps = rw (some e) (all_append made (a ∷ []) kept.steps ((user, fits), tt));
      settings = ap (λ k. k.settings) (after_step e) ∙ keeps_settings m u s user sound_now ∙ kept.settings ∙ sym steps.settings;
    }
  ]

  -- and the machine has made it
  pub made_so : HostSteps u s m (machine_after new.settings after) r
  made_so = from_machine u s m user sound_now fits (machine_after new.settings after) r
      (λ given. elim (cases_memory r) [
        | inl e ↦ absurd (given e)
        | inr e ↦ (after_step e, (told.machine given).0)
      ])
      (λ e. (after_memory e, (told.memory e).1))

-- ---- a step that may need a handler

pub kept_made : (u : ℕ) (s : Option PlainStep) (old new : Hosts) (made : Made) (r : Option Reply) → IsUser u → IfSome s (λ s. step_fits s ≡ true) → sound (host_of u old) ≡ true
    → Kept old made → MakesIn u s old new r → Kept new (one_more_without_handler u s r made)
kept_made u None old new made r user fits is kept makes = rw makes.1 kept
kept_made u (Some s) old new made None user fits is kept makes = absurd makes
kept_made u (Some s) old new made (Some r) user fits is kept steps = kept_after u s old new made r user fits is kept steps

pub makes_so : (u : ℕ) (s : Option PlainStep) (old new : Hosts) (made : Made) (r : Option Reply) → IsUser u → IfSome s (λ s. step_fits s ≡ true) → sound (host_of u old) ≡ true
    → Kept old made → MakesIn u s old new r → Makes u s (machine_after old.settings made) (machine_after new.settings (one_more_without_handler u s r made)) r
makes_so u None old new made r user fits is kept makes = (makes.0, ap (λ h. machine_after h.settings made) makes.1)
makes_so u (Some s) old new made None user fits is kept makes = absurd makes
makes_so u (Some s) old new made (Some r) user fits is kept steps = made_so u s old new made r user fits is kept steps

-- ---- a copy of one user

all_if : (b : Bool) (a : UserStep) (made : Made) → IsStep a → AllByRecursion IsStep made → AllByRecursion IsStep (if b then a ∷ made else made)
all_if true a made one all = (one, all)
all_if false a made one all = all

all_among : (among : ℕ → Bool) (made : Made) → AllByRecursion IsStep made → AllByRecursion IsStep (filter (λ a. among a.uid) made)
all_among among [] all = tt
all_among among (a ∷ made) all = all_if (among a.uid) a (filter (λ a. among a.uid) made) all.0 (all_among among made all.1)

asked_among : (among : ℕ → Bool) (w : ℕ) (made : Made) → asked_by w (filter (λ a. among a.uid) made) ≡ (if among w then asked_by w made else [])
asked_among among w [] = grind arith
asked_among among w (a ∷ made) = grind (arith, nat_tests, asked_among among w made)

module _ (u : ℕ) (made source : Made) where
  abbrev others : Made
  others = filter (λ a. not (a.uid == u)) made

  asked : (w : ℕ) → asked_by w (with_user u made source) ≡ (if not (w == u) then asked_by w made else []) ++ (if w == u then asked_by w source else [])
  asked w = filter-append (λ a. a.uid == w) others (asked_by u source) ∙ ap₂ (λ xs ys. xs ++ ys) (asked_among (λ x. not (x == u)) w made) (asked_among (λ x. x == u) w source)

  asked_own : asked_by u (with_user u made source) ≡ asked_by u source
  asked_own = grind (arith, nat_tests, asked u)

  asked_other : (w : ℕ) → w ≢ u → asked_by w (with_user u made source) ≡ asked_by w made
  asked_other w ne = grind (arith, nat_tests, asked w, append-nil (asked_by w made))

  all_with : AllByRecursion IsStep made → AllByRecursion IsStep source → AllByRecursion IsStep (with_user u made source)
  all_with all more = all_append others (asked_by u source) (all_among (λ x. not (x == u)) made all) (all_among (λ x. x == u) source more)

users_of : (xs : List UserStep) → AllByRecursion IsStep xs → Users xs
users_of [] all = tt
users_of (x ∷ xs) all = (all.0.0, users_of xs all.1)

-- what a user sees depends only on the user's own steps
seen_by_steps : (settings : Settings) (w : ℕ) (xs ys : List UserStep) → IsUser w → AllByRecursion IsStep xs → AllByRecursion IsStep ys → asked_by w xs ≡ asked_by w ys
    → view w (last xs (empty settings)) ≡ view w (last ys (empty settings))
seen_by_steps settings w xs ys user all more same =
    let apart = users_are_apart_at_first settings in
    (own_list_law (empty settings) w xs user (users_of xs all) apart).1 ∙ rw same refl ∙ sym (own_list_law (empty settings) w ys user (users_of ys more) apart).1

module _ (u : ℕ) (hosts source : Hosts) (made other_made : Made) (user : IsUser u) (long : length hosts.made ≡ 64) (settings : hosts.settings ≡ source.settings)
    (kept : Kept hosts made) (kept_there : Kept source other_made) where
  abbrev mixed : Made
  mixed = with_user u made other_made

  all : AllByRecursion IsStep mixed
  all = all_with u made other_made kept.steps kept_there.steps

  seen_own : view u (machine_after hosts.settings mixed) ≡ view u (machine_after hosts.settings other_made)
  seen_own = seen_by_steps hosts.settings u mixed other_made user all kept_there.steps (asked_own u made other_made)

  pub copies : CopiesUser u (machine_after hosts.settings made) (machine_after source.settings other_made) (machine_after hosts.settings mixed)
  copies = record {
    own = seen_own ∙ ap (λ st. view u (machine_after st other_made)) settings;
    others = λ w is ne. seen_by_steps hosts.settings w mixed made is all kept.steps (asked_other u made other_made w ne);
  }

  pub kept_copied : Kept (copied u hosts source) mixed
  kept_copied = record {
    shows = copy_shows u hosts source (machine_after hosts.settings made) (machine_after source.settings other_made) (machine_after hosts.settings mixed) user long settings kept.shows kept_there.shows
        (users_are_apart_in_a_sound_host (machine_after hosts.settings mixed) (made_sound hosts.settings mixed all)) copies.own copies.others;
    steps = all;
    settings = ap (λ v. v.settings) copies.own ∙ kept_there.settings ∙ sym settings;
  }
