-- One script more, one step more, one transcript more.
use Rattle.std.proofs.Common.{◌≡◌, ◌≢◌, ℕ, zero, suc, ◌+◌, ◌-◌, ◌<◌, ◌≤◌, ◌==◌, cond, not, List, [], ◌∷◌, ◌++◌, length, get_or, map, filter, refl, sym, ap, ap₂, ◌∙◌, inl, inr, arith}
use Rattle.scenario.proofs.CommonNames.{set, length-map, map-append, map-set, get_or-map, cases_lt, nat_tests, rising, users, slot, IsUser, PlainStep, UserStep, BoxedScript, boxed_script, own_step, has_steps, some_steps, steps_of}
use Rattle.std.proofs.lemmas.List.{append-nil}
use Rattle.requests.proofs.IsolationLaws.{at_slot}
use Rattle.scenario_text.specs.Plan.{asked}
use Rattle.scenario.proofs.ScriptLemmas.{script_of}

-- one user more, and one empty script
rising_more : (n m : ℕ) → rising (suc n) m ≡ rising n m ++ (m + n) ∷ []
rising_more zero m = grind (arith)
rising_more (suc n) m = grind (arith, rising_more n (m + 1))

abbrev pub unasked : ℕ → ℕ × List PlainStep
unasked u = (u, [])

pub empty_more : {F T : Type 0} (ss : List (BoxedScript F T)) (s : BoxedScript F T) (number : ℕ) → 1001 ≤ number → s.uid ≡ number → map own_step s.steps.items ≡ []
    → map boxed_script ss ≡ map unasked (rising (number - 1001) 1001) → map boxed_script (ss ++ s ∷ []) ≡ map unasked (rising (number + 1 - 1001) 1001)
empty_more ss s number least named none before =
    let count : number + 1 - 1001 ≡ suc (number - 1001) = omega arith in
    let last : 1001 + (number - 1001) ≡ number = omega arith in
    let more : rising (number + 1 - 1001) 1001 ≡ rising (number - 1001) 1001 ++ number ∷ [] =
    ap (λ n. rising n 1001) count ∙ rising_more (number - 1001) 1001 ∙ ap (λ k. rising (number - 1001) 1001 ++ k ∷ []) last in
    map-append boxed_script ss (s ∷ [])
    ∙ ap₂ (λ (xs : List (ℕ × List PlainStep)) (x : ℕ × List PlainStep). xs ++ x ∷ []) before (ap₂ (λ (u : ℕ) (steps : List PlainStep). (u, steps)) named none)
    ∙ sym (map-append unasked (rising (number - 1001) 1001) (number ∷ []))
    ∙ ap (map unasked) (sym more)

-- a write at a user's place
map_other : {X : Type 0} (f g : ℕ → X) (n m u : ℕ) → u < m → ((w : ℕ) → w ≢ u → g w ≡ f w) → map f (rising n m) ≡ map g (rising n m)
map_other f g zero m u below other = refl
map_other {X} f g (suc n) m u below other =
    ap₂ (λ (x : X) (xs : List X). x ∷ xs) (sym (other m (λ same. omega arith))) (map_other f g n (m + 1) u (omega arith) other)

set_user : {X : Type 0} (f g : ℕ → X) (n m u : ℕ) → m ≤ u → u < m + n → ((w : ℕ) → w ≢ u → g w ≡ f w) → set (map f (rising n m)) (u - m) (g u) ≡ map g (rising n m)
set_user f g zero m u least most other = absurd (omega arith)
set_user {X} f g (suc n) m u least most other = elim (cases_lt m u) [
  | inl above ↦ let place : u - m ≡ suc (u - (m + 1)) = omega arith in rw place
      (ap₂ (λ (x : X) (xs : List X). x ∷ xs) (sym (other m (λ same. omega arith))) (set_user f g n (m + 1) u (omega arith) (omega arith) other))
  | inr most ↦ let same : u ≡ m = omega arith in let place : u - m ≡ 0 = omega arith in rw place
      (ap₂ (λ (x : X) (xs : List X). x ∷ xs) (ap g same) (map_other f g n (m + 1) u (omega arith) other))
]

-- one step more of all, and of a user
steps_more : (w : ℕ) (done : List UserStep) (a : UserStep) → steps_of w (done ++ a ∷ []) ≡ steps_of w done ++ cond (a.uid == w) (a.step ∷ []) []
steps_more w [] a = grind (arith)
steps_more w (d ∷ done) a = grind (arith, steps_more w done a)

one_asked : (done : List UserStep) (a : UserStep) → IsUser a.uid
    → set (map (script_of done) users) (slot a.uid) (a.uid, steps_of a.uid done ++ a.step ∷ []) ≡ map (script_of (done ++ a ∷ [])) users
one_asked done a user =
    let mine : steps_of a.uid (done ++ a ∷ []) ≡ steps_of a.uid done ++ a.step ∷ [] = grind (arith, nat_tests, steps_more a.uid done a) in
    rw (← mine) (set_user (script_of done) (script_of (done ++ a ∷ [])) 64 1001 a.uid user.0 (omega arith) (λ w differ. grind (arith, nat_tests, steps_more w done a, append-nil (steps_of w done))))

pub step_added : {F T : Type 0} (ss : List (BoxedScript F T)) (new d : BoxedScript F T) (done : List UserStep) (u : ℕ) (s : PlainStep) → IsUser u → map boxed_script ss ≡ map (script_of done) users
    → new.uid ≡ (get_or ss (slot u) d).uid → map own_step new.steps.items ≡ map own_step (get_or ss (slot u) d).steps.items ++ s ∷ []
    → map boxed_script (set ss (slot u) new) ≡ map (script_of (done ++ asked (u, s) ∷ [])) users
step_added ss new d done u s user before named longer =
    let long : length ss ≡ 64 = sym (length-map ss boxed_script) ∙ ap length before in
    let old = get_or ss (slot u) d in
    let was : boxed_script old ≡ script_of done u =
    sym (get_or-map boxed_script ss (slot u) d (0, []) (omega arith)) ∙ ap (λ xs. get_or xs (slot u) (0, [])) before ∙ at_slot (script_of done) u (0, []) user in
    let name : new.uid ≡ u = named ∙ ap (λ (p : ℕ × List PlainStep). p.0) was in
    let steps : map own_step new.steps.items ≡ steps_of u done ++ s ∷ [] = longer ∙ ap (λ (p : ℕ × List PlainStep). p.1 ++ s ∷ []) was in
    map-set boxed_script ss (slot u) new
    ∙ ap₂ (λ (xs : List (ℕ × List PlainStep)) (x : ℕ × List PlainStep). set xs (slot u) x) before (ap₂ (λ (w : ℕ) (list : List PlainStep). (w, list)) name steps)
    ∙ one_asked done (asked (u, s)) user

-- the users with steps
pub are_some : (steps : List PlainStep) (n : ℕ) → n ≡ length steps → not (n == 0) ≡ some_steps steps
are_some [] n same = grind (arith, nat_tests, same)
are_some (s ∷ rest) n same = grind (arith, nat_tests, same)

pub kept_scripts : {F T : Type 0} (ss : List (BoxedScript F T)) → map boxed_script (filter (λ s. has_steps (boxed_script s)) ss) ≡ filter has_steps (map boxed_script ss)
kept_scripts [] = refl
kept_scripts (s ∷ rest) = grind (arith, kept_scripts rest)
