-- One more line, and one more reply of a user.
use Rattle.scenario_runs.proofs.CommonNames.{◌≡◌, ℕ, ◌+◌, ◌-◌, ◌<◌, ◌≤◌, ◌==◌, Bool, cond, List, [], ◌∷◌, ◌++◌, length, get_or, map, drop, Option, Some, None, count_by, replicate, refl, sym, ap, ◌∙◌}
use Rattle.scenario_runs.proofs.CommonNames.{arith, set, at_drop_more, length-set, get_or-set_same, get_or-set_other, get_or-replicate, get_or_past, count_by-le-length, sum_by-cons, nat_tests, Reply}
use Rattle.scenario_runs.proofs.CommonNames.{Answered, Line, line, lines_after, lines_of, shown_line, text_of, answered, shown, Style, append_assoc}

-- how many replies went to the user
abbrev pub replies_to : ℕ → List ℕ → ℕ
replies_to user before = count_by (λ u. u == user) before

-- the count of each user's replies
pub record Counted (made : List ℕ) (before : List ℕ) : Type 0 where
  pub users : length made ≡ 64
  pub each : (k : ℕ) → k < 64 → get_or made k 0 ≡ replies_to (k + 1001) before

pub counted_start : Counted (replicate 64 0) []
counted_start = record { users = refl; each = λ k h. get_or-replicate 64 k 0 0 h }

-- one more reply
pub counted_one : (u user : ℕ) (before : List ℕ) (b : Bool) → (u == user) ≡ b → replies_to user (u ∷ before) ≡ cond b 1 0 + replies_to user before
counted_one u user before b is = sum_by-cons (λ x. cond (x == user) 1 0) u before ∙ ap (λ t. cond t 1 0 + replies_to user before) is

-- what the slot of a user says
pub counted_number : (made before : List ℕ) (u : ℕ) → 1001 ≤ u → u ≤ 1064 → Counted made before → get_or made (u - 1001) 0 ≡ replies_to u before
counted_number made before u low high counted = let own = counted.each (u - 1001) in grind (arith, own)

-- the slot of the user counts one more, and the others stay
pub counted_more : (made before : List ℕ) (u : ℕ) → 1001 ≤ u → u ≤ 1064 → Counted made before → Counted (set made (u - 1001) (get_or made (u - 1001) 0 + 1)) (u ∷ before)
counted_more made before u low high counted = record {
  users = length-set made _ _ ∙ counted.users;
  each = λ k small.
      let own = counted_one u (k + 1001) before _ refl in
      let was = counted.each k small in
      grind (arith, nat_tests, counted.users, was, own, get_or-set_same {A = ℕ}, get_or-set_other {A = ℕ});
}

-- no slot counts more replies than there were
pub counted_few : (made before : List ℕ) → Counted made before → (k : ℕ) → get_or made k 0 ≤ length before
counted_few made before counted k = let own = counted.each k in grind (arith, counted.users, own, count_by-le-length (λ u. u == (k + 1001)) before, get_or_past made k 0)

abbrev pub shown_lines : Option ℕ → List Line → List ℕ
shown_lines None list = text_of list
shown_lines (Some user) list = text_of (lines_of user list)

-- what is shown of the answers after others
abbrev pub shown_after : Style → Option ℕ → List ℕ → List Answered → List ℕ
shown_after style user before answers = shown_lines user (lines_after style before answers)

pub shown_whole : (style : Style) (user : Option ℕ) (answers : List Answered) → shown_after style user [] answers ≡ shown style user answers
shown_whole style user answers = grind arith

pub shown_none : (style : Style) (user : Option ℕ) (before : List ℕ) → shown_after style user before [] ≡ []
shown_none style user before = grind arith

first_line : (user : Option ℕ) (l : Line) (list : List Line) → shown_lines user (l ∷ list) ≡ shown_line user l ++ shown_lines user list
first_line user l list = grind arith

-- after one more line, the text so far and the lines to come are still the whole text
pub text_next : (style : Style) (user : Option ℕ) (a : Answered) (rest : List Answered) (before : List ℕ) (number : ℕ) (old new all : List ℕ)
    → number ≡ replies_to a.uid before + 1 → new ≡ old ++ shown_line user (line style number a)
    → old ++ shown_after style user before (a ∷ rest) ≡ all → new ++ shown_after style user (a.uid ∷ before) rest ≡ all
text_next style user a rest before number old new all number_is new_is whole = grind (arith, number_is, new_is, first_line, append_assoc {A = ℕ})

-- the same of the reply at a place in a list
pub text_more : (style : Style) (user : Option ℕ) (es : List (ℕ × Reply)) (i : ℕ) (e : ℕ × Reply) (before : List ℕ) (number : ℕ) (old new all : List ℕ) → i < length es → get_or es i e ≡ e
    → number ≡ replies_to e.0 before + 1 → new ≡ old ++ shown_line user (line style number (answered e))
    → old ++ shown_after style user before (map answered (drop i es)) ≡ all
    → new ++ shown_after style user (e.0 ∷ before) (map answered (drop (i + 1) es)) ≡ all
text_more style user es i e before number old new all h here number_is new_is whole =
    let rest = map answered (drop (i + 1) es) in
    let next : shown_after style user before (map answered (drop i es)) ≡ shown_after style user before (answered e ∷ rest) =
    at_drop_more (λ xs. shown_after style user before (map answered xs)) es i e h
    ∙ ap (λ (x : ℕ × Reply). shown_after style user before (answered x ∷ rest)) here in
    text_next style user (answered e) rest before number old new all number_is new_is (ap (λ xs. old ++ xs) (sym next) ∙ whole)
