-- The lines of one user, and the lines grouped by user.
use Rattle.std.proofs.Common.{◌≡◌, ◌≢◌, ℕ, ◌+◌, ◌<◌, ◌≤◌, zero, suc, List, [], ◌∷◌, ◌++◌, map, Option, Some, None, refl, sym, ap, ap₂, ◌∙◌, inl, inr, arith}
use Rattle.scenario.proofs.CommonNames.{concat, AllByRecursion, cases_eq, nat_tests, rising, users, IsUser, Reply, Users, empty, UserStep, asked_by, replies}
use Rattle.scenario.proofs.CommonNames.{alone, Answered, lines, lines_after, lines_of, text_of, answers_by, shown_grouped, told_to, Plan, Style, paired, shown}
use Rattle.std.proofs.lemmas.List.{append-nil}
use Rattle.requests.specs.Isolation.{replies_to as replies_of}
use Rattle.visibility.proofs.Apart.{own_list_law, users_are_apart_at_first}
use Rattle.scenario_runs.specs.Runs.{answers_of}
use Rattle.scenario_runs.proofs.LineLemmas.{replies_to, counted_one}

-- a user's lines number only the user's own answers
pub own_lines : (style : Style) (u : ℕ) (before others : List ℕ) (answers : List Answered) → replies_to u before ≡ replies_to u others
    → lines_of u (lines_after style before answers) ≡ lines_after style others (answers_by u answers)
own_lines style u before others [] same = refl
own_lines style u before others (a ∷ rest) same =
    grind (arith, nat_tests, same, counted_one a.uid u before _ refl, counted_one a.uid u others _ refl, own_lines style u (a.uid ∷ before) (a.uid ∷ others) rest, own_lines style u (a.uid ∷ before) others rest)

-- a user's answers among those of a user
own_again : (u : ℕ) (answers : List Answered) → answers_by u (answers_by u answers) ≡ answers_by u answers
own_again u [] = refl
own_again u (a ∷ rest) = grind (arith, nat_tests, own_again u rest)

none_of_others : (u w : ℕ) (answers : List Answered) → u ≢ w → answers_by u (answers_by w answers) ≡ []
none_of_others u w [] differ = refl
none_of_others u w (a ∷ rest) differ = grind (arith, nat_tests, none_of_others u w rest differ)

-- if all but one user have nothing
nothing_above : (f : ℕ → List ℕ) (n m u : ℕ) → ((w : ℕ) → u ≢ w → f w ≡ []) → u < m → concat (map f (rising n m)) ≡ []
nothing_above f zero m u none below = refl
nothing_above f (suc n) m u none below = grind (arith, none m, nothing_above f n (m + 1) u none)

pub one_among : (f : ℕ → List ℕ) (n m u : ℕ) → ((w : ℕ) → u ≢ w → f w ≡ []) → (u < m → f u ≡ []) → (m + n ≤ u → f u ≡ []) → concat (map f (rising n m)) ≡ f u
one_among f zero m u none below above = grind (arith, below, above)
one_among f (suc n) m u none below above = elim (cases_eq m u) [
  | inl same ↦ rw (nothing_above f n (m + 1) u none (omega arith)) (append-nil (f m) ∙ ap f same)
  | inr differ ↦ rw (none m (λ is. differ (sym is))) (one_among f n (m + 1) u none (λ less. below (omega arith)) (λ more. above (omega arith)))
]

-- what is shown of one user among the answers of a user
shown_own : (style : Style) (u : ℕ) (answers : List Answered) → shown style (Some u) (answers_by u answers) ≡ shown style (Some u) answers
shown_own style u answers =
    ap text_of (own_lines style u [] [] (answers_by u answers) refl ∙ ap (lines style) (own_again u answers) ∙ sym (own_lines style u [] [] answers refl))

shown_other : (style : Style) (u w : ℕ) (answers : List Answered) → u ≢ w → shown style (Some u) (answers_by w answers) ≡ []
shown_other style u w answers differ =
    ap text_of (own_lines style u [] [] (answers_by w answers) refl ∙ ap (lines style) (none_of_others u w answers differ))

-- if all answers are to users, no one else has any
abbrev pub ToUsers : List Answered → Type 0
ToUsers answers = AllByRecursion (λ a. IsUser a.uid) answers

no_user : (u : ℕ) (answers : List Answered) → ToUsers answers → (IsUser u → ⊥) → answers_by u answers ≡ []
no_user u [] known outside = refl
no_user u (a ∷ rest) known outside = grind (arith, nat_tests, known.0, outside, no_user u rest known.1 outside)

-- what is shown of the answers of each user, one user after another
texts_by : (style : Style) (us : List ℕ) (answers : List Answered)
    → concat (map (λ u. shown style None (answers_by u answers)) us) ≡ concat (map (λ u. text_of (lines_of u (lines style answers))) us)
texts_by style [] answers = refl
texts_by style (u ∷ rest) answers = ap₂ (λ (xs ys : List ℕ). xs ++ ys) (ap text_of (sym (own_lines style u [] [] answers refl))) (texts_by style rest answers)

shown_by_users : (style : Style) (user : Option ℕ) (answers : List Answered) → ToUsers answers
    → concat (map (λ u. shown style user (answers_by u answers)) users) ≡ shown_grouped style user answers
shown_by_users style None answers known = texts_by style users answers
shown_by_users style (Some u) answers known =
    one_among (λ w. shown style (Some u) (answers_by w answers)) 64 1001 u (λ w. shown_other style u w answers)
    (λ below. ap (shown style (Some u)) (no_user u answers known (λ is. omega arith))) (λ above. ap (shown style (Some u)) (no_user u answers known (λ is. omega arith)))
    ∙ shown_own style u answers

-- the answers of one user in a list of all users' answers
pub own_answers : (u : ℕ) (xs : List UserStep) (rs : List Reply) → answers_by u (paired xs rs) ≡ told_to u (replies_of u xs rs)
own_answers u [] rs = refl
own_answers u (x ∷ xs) [] = refl
own_answers u (x ∷ xs) (r ∷ rs) = grind (arith, nat_tests, own_answers u xs rs)

-- the answers of one user in a whole run are those of the user's own steps without any other user
pub alone_answers : (u : ℕ) (plan : Plan) → IsUser u → Users plan.steps
    → answers_by u (answers_of plan) ≡ told_to u (replies (asked_by u plan.steps) (alone u (empty plan.settings)))
alone_answers u plan user all =
    own_answers u plan.steps (replies plan.steps (empty plan.settings))
    ∙ ap (told_to u) (own_list_law (empty plan.settings) u plan.steps user all (users_are_apart_at_first plan.settings)).0

pub users_answered : (xs : List UserStep) (rs : List Reply) → Users xs → ToUsers (paired xs rs)
users_answered [] rs all = tt
users_answered (x ∷ xs) [] all = tt
users_answered (x ∷ xs) (r ∷ rs) all = (all.0, users_answered xs rs all.1)

-- so of a whole run
pub shown_plan : (style : Style) (user : Option ℕ) (plan : Plan) → Users plan.steps
    → concat (map (λ u. shown style user (answers_by u (answers_of plan))) users) ≡ shown_grouped style user (answers_of plan)
shown_plan style user plan all = shown_by_users style user (answers_of plan) (users_answered plan.steps (replies plan.steps (empty plan.settings)) all)
