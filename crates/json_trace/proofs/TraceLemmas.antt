-- One more line of a trace.
use Rattle.std.proofs.Common.{◌≡◌, ℕ, ◌+◌, ◌<◌, ◌≤◌, ◌==◌, Bool, true, false, List, [], ◌∷◌, ◌++◌, drop, filter, get_or, length, map, Option, Some, None, refl, sym, ap, ◌∙◌, arith, append_assoc, ap₂, count_by}
use Rattle.std.specs.Prelude.{zip}
use Rattle.std.proofs.lemmas.Bool.Decides.{nat_tests}
use Rattle.std.proofs.lemmas.List.{at_drop_all, at_drop_more}
use Rattle.step_types.specs.{Plain.{PlainStep, UserStep}, declared.Reply.Reply}
use Rattle.scenario_text.specs.Plan.{asked}
use Rattle.scenario_runs.specs.{Lines.{Answered, Line, lines_of, shown_line, shows, text_of}, Runs.{answered, paired}}
use Rattle.scenario_runs.proofs.LineLemmas.{replies_to}
use Rattle.json_trace.specs.Traces.{answers_to, chosen, traced_after, traced_line}

-- the text of the chosen lines begins with that of the first one, if it is shown
chosen-first : (user : Option ℕ) (l : Line) (list : List Line) → chosen user (l ∷ list) ≡ shown_line user l ++ chosen user list
chosen-first user l list = grind arith

pub chosen-shown : (user : Option ℕ) (l : Line) (list : List Line) → shows user l.uid ≡ true → chosen user (l ∷ list) ≡ l.text ++ chosen user list
chosen-shown user l list is = grind (arith, chosen-first user l list, is)

pub chosen-other : (user : Option ℕ) (l : Line) (list : List Line) → shows user l.uid ≡ false → chosen user (l ∷ list) ≡ chosen user list
chosen-other user l list is = grind (arith, chosen-first user l list, is)

pub chosen-none : (user : Option ℕ) → chosen user [] ≡ []
chosen-none user = grind arith

-- the answers to the user begin with the first one, if it is the user's
answers-shown : (user : Option ℕ) (a : Answered) (list : List Answered) → shows user a.uid ≡ true → answers_to user (a ∷ list) ≡ a ∷ answers_to user list
answers-shown user a list is = grind (arith, is)

answers-other : (user : Option ℕ) (a : Answered) (list : List Answered) → shows user a.uid ≡ false → answers_to user (a ∷ list) ≡ answers_to user list
answers-other user a list is = grind (arith, is)

answers-none : (user : Option ℕ) → answers_to user [] ≡ []
answers-none user = grind arith

-- no step has a reply
pub unreplied : (steps : List UserStep) (rs : List Reply) → rs ≡ [] → zip steps rs ≡ []
unreplied [] rs none = refl
unreplied (x ∷ xs) rs none = ap (zip (x ∷ xs)) none

-- the replies that are left at a place, before a step
module _ (user : Option ℕ) (es : List (ℕ × Reply)) (told : ℕ) (u : ℕ) (s : PlainStep) (rest : List UserStep) where
  abbrev pub IsLeft : List UserStep → ℕ → List Reply → Type 0
  IsLeft steps at rs = map answered (drop at es) ≡ answers_to user (paired steps rs)

  -- the step is shown, and has the next reply
  pub reply-shown : (e : ℕ × Reply) (rs : List Reply) → told < length es → get_or es told e ≡ e → shows user u ≡ true → IsLeft (asked (u, s) ∷ rest) told rs
      → (more : List Reply) × (rs ≡ e.1 ∷ more) × IsLeft rest (told + 1) more
  reply-shown e rs there here is left = by rs left
    where
      first : map answered (drop told es) ≡ answered e ∷ map answered (drop (told + 1) es)
      first = at_drop_more (map answered) es told e there ∙ ap (λ x. answered x ∷ map answered (drop (told + 1) es)) here

      by : (rs : List Reply) → IsLeft (asked (u, s) ∷ rest) told rs → (more : List Reply) × (rs ≡ e.1 ∷ more) × IsLeft rest (told + 1) more
      by [] left = absurd (grind (arith, first, left, answers-none user))
      by (r ∷ rs) left =
          let both : answered e ∷ map answered (drop (told + 1) es) ≡ answered (u, r) ∷ answers_to user (paired rest rs) = sym first ∙ left ∙ answers-shown user (answered (u, r)) (paired rest rs) is in
          (rs, grind (arith, both), grind (arith, both))

  -- it is shown, and no reply is left: there is none to any step
  pub reply-none : (rs : List Reply) → length es ≤ told → shows user u ≡ true → IsLeft (asked (u, s) ∷ rest) told rs → rs ≡ []
  reply-none [] past is left = refl
  reply-none (r ∷ rs) past is left =
      let none = at_drop_all (map answered) es told past in
      absurd (grind (arith, none, left, answers-shown user (answered (u, r)) (paired rest rs) is))

  -- it isn't shown, and has a reply or none
  pub reply-other : (before : List ℕ) (rs : List Reply) → shows user u ≡ false → IsLeft (asked (u, s) ∷ rest) told rs
      → (more : List Reply) × IsLeft rest told more × (chosen user (traced_after before (zip (asked (u, s) ∷ rest) rs)) ≡ chosen user (traced_after (u ∷ before) (zip rest more)))
  reply-other before [] is left = ([], left ∙ nothing rest, ap (λ ps. chosen user (traced_after (u ∷ before) ps)) (sym (unreplied rest [] refl)))
    where
      nothing : (xs : List UserStep) → answers_to user (paired (asked (u, s) ∷ rest) []) ≡ answers_to user (paired xs [])
      nothing [] = refl
      nothing (x ∷ xs) = refl
  reply-other before (r ∷ rs) is left = (rs, left ∙ answers-other user (answered (u, r)) (paired rest rs) is, chosen-other user _ _ is)

-- the text that is left begins with the line of the next step, if that is shown
pub next-shown : (user : Option ℕ) (before : List ℕ) (x : ℕ × PlainStep) (r : Reply) (steps rest : List UserStep) (rs more : List Reply) (number index : ℕ) (after : List ℕ) → shows user x.0 ≡ true → steps ≡ asked x ∷ rest → rs ≡ r ∷ more
    → number ≡ replies_to x.0 before + 1 → index ≡ length before + 1
    → chosen user (traced_after before (zip steps rs)) ++ after ≡ (traced_line number index (asked x) r).text ++ (chosen user (traced_after (x.0 ∷ before) (zip rest more)) ++ after)
next-shown user before x r steps rest rs more number index after is steps_is rs_is number_is index_is =
    let left = chosen user (traced_after (x.0 ∷ before) (zip rest more)) in
    ap (λ xs. xs ++ after) (ap₂ (λ ss qs. chosen user (traced_after before (zip ss qs))) steps_is rs_is ∙ chosen-shown user (traced_line (replies_to x.0 before + 1) (length before + 1) (asked x) r) (traced_after (x.0 ∷ before) (zip rest more)) is
    ∙ ap₂ (λ n i. (traced_line n i (asked x) r).text ++ left) (sym number_is) (sym index_is))
    ∙ append_assoc (traced_line number index (asked x) r).text left after

-- no step is left, or no reply
pub none-left : (user : Option ℕ) (before : List ℕ) (steps : List UserStep) (rs : List Reply) (after : List ℕ) → zip steps rs ≡ [] → chosen user (traced_after before (zip steps rs)) ++ after ≡ after
none-left user before steps rs after none = ap (λ ps. chosen user (traced_after before ps) ++ after) none ∙ ap (λ xs. xs ++ after) (chosen-none user)
