-- Scripts of users: in rising order, each with its user's steps.
use Rattle.std.proofs.Common.{◌≡◌, ℕ, zero, suc, ◌+◌, ◌<◌, ◌≤◌, ◌==◌, false, List, [], ◌∷◌, length, get_or, map, filter, refl, arith}
use Rattle.scenario.proofs.CommonNames.{concat, flat_map, AllByRecursion, nat_tests, length-map, rising, users, IsUser, PlainStep, UserStep, asked_by, All-where, All-map, Answered, answers_by, steps_of, has_steps, scripts_in}
use Rattle.std.proofs.lemmas.List.Sums.{length-filter, count_by-le-length}

abbrev pub script_of : List UserStep → ℕ → ℕ × List PlainStep
script_of list u = (u, steps_of u list)

-- users that rise from m on
abbrev pub RisingFrom : ℕ → List (ℕ × List PlainStep) → Type 0
RisingFrom m [] = Unit {0}
RisingFrom m (s ∷ rest) = (m ≤ s.0) × RisingFrom (s.0 + 1) rest

rising_weaker : (m : ℕ) (ss : List (ℕ × List PlainStep)) → RisingFrom (m + 1) ss → RisingFrom m ss
rising_weaker m [] rises = tt
rising_weaker m (s ∷ rest) rises = (omega (arith, rises.0), rises.1)

pub rising_scripts : (n m : ℕ) (list : List UserStep) → RisingFrom m (filter has_steps (map (script_of list) (rising n m)))
rising_scripts zero m list = tt
rising_scripts (suc n) m list = let later = rising_scripts n (m + 1) list in grind (arith, later, rising_weaker m _ later)

-- the user of the k-th script
abbrev pub user_at : List (ℕ × List PlainStep) → ℕ → ℕ
user_at ss k = get_or (map (λ s. s.0) ss) k 0

least : (m : ℕ) (ss : List (ℕ × List PlainStep)) (k : ℕ) → RisingFrom m ss → k < length ss → m ≤ user_at ss k
least m [] k rises h = absurd (omega arith)
least m (s ∷ rest) zero rises h = rises.0
least m (s ∷ rest) (suc k) rises h = omega (arith, least (s.0 + 1) rest k rises.1 (omega arith), rises.0)

rises_at : (m : ℕ) (ss : List (ℕ × List PlainStep)) (i j : ℕ) → RisingFrom m ss → i < j → j < length ss → user_at ss i < user_at ss j
rises_at m [] i j rises lt h = absurd (omega arith)
rises_at m (s ∷ rest) i zero rises lt h = absurd (omega arith)
rises_at m (s ∷ rest) zero (suc j) rises lt h = omega (arith, least (s.0 + 1) rest j rises.1 (omega arith))
rises_at m (s ∷ rest) (suc i) (suc j) rises lt h = rises_at (s.0 + 1) rest i j rises.1 (omega arith) (omega arith)

-- no user has two scripts
pub one_script : (m : ℕ) (ss : List (ℕ × List PlainStep)) (i j : ℕ) → RisingFrom m ss → i < length ss → j < length ss → user_at ss i ≡ user_at ss j → i ≡ j
one_script m ss i j rises hi hj same = grind (arith, same, rises_at m ss i j rises, rises_at m ss j i rises)

-- a script has its user's steps, all of them, and its user is one
own_steps : (u : ℕ) (list : List UserStep) → map (λ s. record { uid = u; step = s }) (steps_of u list) ≡ asked_by u list
own_steps u [] = refl
own_steps u (a ∷ rest) = grind (arith, nat_tests, own_steps u rest)

pub record IsScript (list : List UserStep) (s : ℕ × List PlainStep) : Type 0 where
  pub user : IsUser s.0
  pub steps : map (λ step. record { uid = s.0; step = step }) s.1 ≡ asked_by s.0 list
  pub short : length s.1 ≤ length list

all_users : (n m : ℕ) → 1001 ≤ m → m + n ≤ 1065 → AllByRecursion IsUser (rising n m)
all_users zero m low high = tt
all_users (suc n) m low high = ((omega arith, omega arith), all_users n (m + 1) (omega arith) (omega arith))

pub are_scripts : (list : List UserStep) → AllByRecursion (IsScript list) (scripts_in list)
are_scripts list =
    All-where has_steps (IsScript list) (IsScript list) (λ s is has. is) (map (script_of list) users)
    (All-map (script_of list) IsUser (IsScript list) (λ u user. record {
      user = user;
      steps = own_steps u list;
      short = omega (arith, count_by-le-length (λ a. a.uid == u) list, length-filter (λ a. a.uid == u) list, length-map (asked_by u list) (λ (a : UserStep). a.step));
    }) users (all_users 64 1001 (omega arith) (omega arith)))

pub few_scripts : (list : List UserStep) → length (scripts_in list) ≤ 64
few_scripts list = omega (arith, count_by-le-length has_steps (map (script_of list) users), length-filter has_steps (map (script_of list) users))

-- users without a script have no answers
no_steps : (u : ℕ) (list : List UserStep) → has_steps (script_of list u) ≡ false → asked_by u list ≡ []
no_steps u [] none = refl
no_steps u (a ∷ rest) none = grind (arith, none, no_steps u rest)

-- so they add nothing to what there is of each script's user
pub over_scripts : (g : ℕ → List ℕ) (n m : ℕ) (list : List UserStep) → ((u : ℕ) → asked_by u list ≡ [] → g u ≡ []) → flat_map g (map (λ (s : ℕ × List PlainStep). s.0) (filter has_steps (map (script_of list) (rising n m)))) ≡ concat (map g (rising n m))
over_scripts g zero m list none = refl
over_scripts g (suc n) m list none = grind (arith, over_scripts g n (m + 1) list none, none m, no_steps m list)

-- so they add nothing to what is shown of each script's user
pub shown_scripts : (shows : List Answered → List ℕ) (n m : ℕ) (list : List UserStep) (answers : List Answered) → shows [] ≡ [] → ((u : ℕ) → asked_by u list ≡ [] → answers_by u answers ≡ [])
    → flat_map shows (map (λ s. answers_by s.0 answers) (filter has_steps (map (script_of list) (rising n m)))) ≡ concat (map (λ u. shows (answers_by u answers)) (rising n m))
shown_scripts shows zero m list answers nothing none = refl
shown_scripts shows (suc n) m list answers nothing none =
    grind (arith, shown_scripts shows n (m + 1) list answers nothing none, nothing, none m, no_steps m list)
