-- The hosts of all users show a machine of all users.
use Rattle.requests.proofs.CommonNames.{◌≡◌, ◌≢◌, ℕ, true, not, ◌&&◌, Option, None, length, set, refl, sym, ap, ap₂, subst, ◌∙◌, inl, inr, slot, IsUser, PlainStep, Step, Reply, Machine}
use Rattle.requests.proofs.CommonNames.{get_or-set_other, set-get_or, slots_differ}
use Rattle.trace_rows.proofs.IsolationOfEdits.{put_at}
use Rattle.step_types.specs.Replies.{is_refusal}
use Rattle.requests.specs.CommonNames.{ENOMEM}
use Rattle.requests.specs.Isolation.{Apart, reply_of, host_after}
use Rattle.requests.specs.Memory.{may_want, takes_memory, turn_makes}
use Rattle.requests.specs.Sound.{sound}
use Rattle.requests.specs.View.{view}
use Rattle.requests.specs.Hosts.{Steps as HostSteps}
use Rattle.std.proofs.lemmas.Bool.Decides.{eqb_tells}
use Rattle.requests.proofs.IsolationLaws.{at_slot, keeps_apart, one_step, other_step}
use Rattle.requests.proofs.SoundHostIsApart.{users_are_apart_in_a_sound_host}
use Rattle.visibility.proofs.Apart.{users_are_apart_at_first}
use Rattle.visibility.proofs.ForeignLists.{seen_by_view}
use Rattle.user_hosts.specs.Hosts.{Hosts, Steps, Shows, made_of, host_or, host_of}
use Rattle.user_hosts.specs.Laws.{UnusedShows, CopyShows}

-- which steps take memory depends only on what the user sees
takes_same : (u : ℕ) (s : PlainStep) (m k : Machine) → IsUser u → Apart m → Apart k → view u m ≡ view u k → takes_memory u s m ≡ takes_memory u s k
takes_same u (Step.Turn tid a) m k user am ak same = ap (turn_makes a) (seen_by_view m k u tid user am ak same).1
takes_same u Step.Spawn m k user am ak same = refl
takes_same u (Step.List caller) m k user am ak same = refl
takes_same u (Step.Sigaction caller sig d) m k user am ak same = refl
takes_same u (Step.Kill caller which sig) m k user am ak same = refl
takes_same u (Step.Wait4 caller which options) m k user am ak same = refl
takes_same u (Step.Install caller policy) m k user am ak same = refl
takes_same u (Step.Handle caller) m k user am ak same = refl
takes_same u (Step.Ptrace caller r target arg) m k user am ak same = refl

-- a step beside a machine of all users: the reply is the machine's, and the hosts show the machine after the step; or,
-- if the step takes memory and the machine wouldn't refuse it, ENOMEM and the hosts as they were
pub record Answers (u : ℕ) (s : PlainStep) (old new : Hosts) (r : Reply) (m : Machine) : Type 0 where
  pub machine : r ≢ Reply.Errno ENOMEM → (r ≡ reply_of u s m) × Shows new (host_after u s m)
  pub memory : r ≡ Reply.Errno ENOMEM → (new ≡ old) × (may_want u s m ≡ true)

pub answers : (u : ℕ) (s : PlainStep) (old new : Hosts) (r : Reply) → IsUser u → sound (host_of u old) ≡ true → Steps u s old new r → (m : Machine) → Shows old m → Answers u s old new r m
answers u s old new r user is steps m shows = record {
  machine = λ given. let made = steps.own.machine given in (
    made.1 ∙ both.0,
    record {
      apart = keeps_apart m u s user shows.apart;
      same = λ w other. elim (eqb_tells w u) [
        | inl h ↦ subst (λ x. view x (host_of x new) ≡ view x (host_after u s m)) (sym h.1) (ap (view u) made.0 ∙ both.1)
        | inr h ↦ kept w other h.1 ∙ shows.same w other ∙ sym (other_step m w u s other user h.1 shows.apart)
      ];
    },
  );
  memory = λ wanted. (steps.refused (rw wanted refl), want ∙ (steps.own.memory wanted).1);
}
  where
    own : Apart (host_of u old)
    own = users_are_apart_in_a_sound_host (host_of u old) is

    both : (reply_of u s (host_of u old) ≡ reply_of u s m) × (view u (host_after u s (host_of u old)) ≡ view u (host_after u s m))
    both = one_step (host_of u old) m u s user own shows.apart (shows.same u user)

    kept : (w : ℕ) → IsUser w → w ≢ u → view w (host_of w new) ≡ view w (host_of w old)
    kept w other ne = ap₂ (λ settings o. view w (host_or settings o)) steps.settings (steps.others w other ne)

    want : may_want u s m ≡ may_want u s (host_of u old)
    want = ap₂ (λ takes reply. takes && not (is_refusal reply)) (takes_same u s m (host_of u old) user shows.apart own (sym (shows.same u user))) (sym both.0)

-- a step that replaces the host of its user
pub replaced : (u : ℕ) (s : PlainStep) (old new : Hosts) (o : Option Machine) (r : Reply) → IsUser u → length old.made ≡ 64 → new.settings ≡ old.settings → new.made ≡ set old.made (slot u) o
    → HostSteps u s (host_of u old) (host_or old.settings o) r → (is_refusal r ≡ true → o ≡ made_of u old) → Steps u s old new r
replaced u s old new o r user long settings made own refused = rw (settings, made) (record {
  own = subst (λ x. HostSteps u s (host_of u old) (host_or old.settings x) r) (sym (put_at u old.made o None user long)) own;
  others = λ w other ne. get_or-set_other old.made (slot u) (slot w) o None (slots_differ u w user other ne);
  settings = refl;
  refused = λ no. rw (refused no, set-get_or old.made (slot u) None) refl;
})

pub unused_shows : UnusedShows
unused_shows settings = record {
  apart = users_are_apart_at_first settings;
  same = λ u user. ap (λ o. view u (host_or settings o)) (at_slot (λ k. None) u None user);
}

pub copy_shows : CopyShows
copy_shows u hosts source m n k user long settings shows of_source apart own others = record {
  apart = apart;
  same = λ w other. elim (eqb_tells w u) [
    | inl h ↦ rw h.1 (rw (put_at u hosts.made (made_of u source) None user long, settings) (of_source.same u user ∙ sym own))
    | inr h ↦ rw (get_or-set_other hosts.made (slot u) (slot w) (made_of u source) None (slots_differ u w user other h.1)) (shows.same w other ∙ sym (others w other h.1))
  ];
}
