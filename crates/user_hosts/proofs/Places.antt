-- A step in a list of hosts that ends with the last user who has a place.
use Rattle.requests.proofs.CommonNames.{◌≡◌, ◌<◌, ◌≤◌, ℕ, true, false, true≢false, inl, inr, arith, empty, List, Option, Some, None, length, get_or, set, set-get_or, refl, sym, ap, subst, ◌∙◌, slot, IsUser, PlainStep, Reply, Settings, Machine, sound, get_or_default}
use Rattle.std.specs.Prelude.{IfSome}
use Rattle.std.proofs.lemmas.List.{get_or_past}
use Rattle.std.proofs.lemmas.Bool.Decides.{leb_tells}
use Rattle.step_types.specs.Replies.{is_refusal}
use Rattle.requests.specs.Hosts.{Steps as HostSteps}
use Rattle.requests.specs.Making.{Makes}
use Rattle.requests.proofs.SoundAfterSpawn.{empty_sound}
use Rattle.user_hosts.specs.Hosts.{Hosts, Steps, MakesIn, made_of, host_or, host_of, padded}
use Rattle.user_hosts.proofs.Padded.{long, read, written}
use Rattle.user_hosts.proofs.Shown.{replaced}

abbrev pub hosts : Settings → List (Option Machine) → Hosts
hosts settings made = record { settings = settings; made = padded made }

-- a place that isn't found is behind the last one
pub behind : (k l n m : ℕ) → (k < l → false ≡ true) → l ≡ n → k ≡ m → n ≤ m
behind k l n m none e f = elim (leb_tells n m) [
  | inl h ↦ h.1
  | inr h ↦ absurd (true≢false (sym (none (let past = h.1 in omega (arith, e, f, past)))))
]

-- nothing moved for a user without a host
pub unmoved : (u : ℕ) (s : PlainStep) (old new : Hosts) (r : Reply) → made_of u old ≡ None → new ≡ old → HostSteps u s (empty old.settings) (empty old.settings) r → Steps u s old new r
unmoved u s old new r none same steps = rw same (record { own = rw none steps; others = λ w is ne. refl; settings = refl; refused = λ no. refl })

module _ (u : ℕ) (settings : Settings) (made : List (Option Machine)) where
  -- a user without a place
  pub nowhere : length made ≤ slot u → made_of u (hosts settings made) ≡ None
  nowhere past = read made (slot u) ∙ get_or_past made (slot u) None past

  pub nowhere_sound : length made ≤ slot u → sound (host_of u (hosts settings made)) ≡ true
  nowhere_sound past = rw (nowhere past) (empty_sound settings)

  -- a user with one
  module _ (x : Option Machine) (at : slot u < length made) (is : x ≡ get_or made (slot u) x) where
    pub found : made_of u (hosts settings made) ≡ x
    found = read made (slot u) ∙ get_or_default made (slot u) None x at ∙ sym is

    pub sound_there : sound (host_or settings x) ≡ true → sound (host_of u (hosts settings made)) ≡ true
    sound_there so = rw found so

    same : (y : Option Machine) → y ≡ x → set made (slot u) y ≡ made
    same y e = ap (set made (slot u)) (e ∙ is) ∙ set-get_or made (slot u) x

    module _ (user : IsUser u) (few : length made ≤ 64) where
      pub stepped : (s : PlainStep) (y : Option Machine) (r : Reply) → HostSteps u s (host_or settings x) (host_or settings y) r → (is_refusal r ≡ true → y ≡ x)
          → Steps u s (hosts settings made) (hosts settings (set made (slot u) y)) r
      stepped s y r steps refused = subst (λ xs. Steps u s (hosts settings made) (record { settings = settings; made = xs }) r) (written made (slot u) y at)
          (replaced u s (hosts settings made) (record { settings = settings; made = set (padded made) (slot u) y }) y r user (long made few) refl refl
          (subst (λ o. HostSteps u s (host_or settings o) (host_or settings y) r) (sym found) steps) (λ no. refused no ∙ sym found))

      pub makes_in : (s : Option PlainStep) (y : Option Machine) (r : Option Reply) → Makes u s (host_or settings x) (host_or settings y) r → (r ≡ None → y ≡ x)
          → IfSome r (λ r. is_refusal r ≡ true → y ≡ x) → MakesIn u s (hosts settings made) (hosts settings (set made (slot u) y)) r
      makes_in None y r made_so none refused = (made_so.0, ap (hosts settings) (same y (none made_so.0)))
      makes_in (Some s) y None made_so none refused = absurd made_so
      makes_in (Some s) y (Some r) made_so none refused = stepped s y r made_so refused
