-- What each user's entries in a legal journal are.
use Rattle.std.proofs.Common.{◌≡◌, ℕ, true, List, [], ◌∷◌, map, refl, sym, ap, ◌∙◌, arith}
use Rattle.sessions.proofs.CommonNames.{Machine, UserStep, asked_by, replies, last, alone, view, users_are_apart_in_a_sound_host, Entry, asked, IsLegal, entries_by, OwnEntries, RanBy}
use Rattle.step_types.specs.declared.Reply.{Reply}
use Rattle.requests.specs.Isolation.{Users, replies_to}
use Rattle.requests.specs.Sound.{sound}
use Rattle.visibility.proofs.Apart.{own_list_law}

-- the user's steps of a journal are the steps of the user's entries
pub asked_own : (u : ℕ) (log : List Entry) → asked_by u (asked log) ≡ asked (entries_by u log)
asked_own u [] = refl
asked_own u (e ∷ es) = grind (arith, asked_own u es)

pub replies_own : (u : ℕ) (log : List Entry) → replies_to u (asked log) (map (λ (x : Entry). x.reply) log) ≡ map (λ (x : Entry). x.reply) (entries_by u log)
replies_own u [] = refl
replies_own u (e ∷ es) = grind (arith, replies_own u es)

pub own_entries : (m : Machine) (log : List Entry) → sound m ≡ true → Users (asked log) → IsLegal m log → OwnEntries m log
own_entries m log is users legal u user =
    let law = own_list_law m u (asked log) user users (users_are_apart_in_a_sound_host m is) in
    let steps = asked_own u log in (
      sym (replies_own u log) ∙ ap (replies_to u (asked log)) legal.replies_given ∙ law.0 ∙ ap (λ (l : List UserStep). replies l (alone u m)) steps,
      law.1 ∙ ap (λ (l : List UserStep). view u (last l (alone u m))) steps,
    )

-- a run of no scripts
pub nothing_ran : {O : Type 0} (made_of : O → List Reply) (m : Machine) → sound m ≡ true → RanBy made_of m [] [] m []
nothing_ran made_of m is = record {
  legal = record { replies_given = refl };
  host = refl;
  entries = λ k e lt. absurd (omega arith);
  transcripts = (refl, λ k p t lt. absurd (omega arith));
  own = own_entries m [] is tt (record { replies_given = refl });
}
