-- Steps with separate policies.
use Rattle.scenario_text.proofs.CommonNames.{⊤, ◌≡◌, ℕ, List, [], ◌∷◌, ◌++◌, length, map, Some, refl, ap, ap₂, subst, ◌∙◌, arith, Rule, Step, PlainStep, with_handler, UserStep, asked, with_policies, with_policy}
use Rattle.scenario_text.proofs.CommonNames.{first_policy, policies_after, policies_in, policy_before, with_installed, user_and_step}

-- a step with a handler
pub handled : {A : Type 0} {B : Type 0} (b : B) (s : Step A) → with_handler (Some b) s ≡ Some (with_installed b s)
handled b s = grind arith

-- the policies that are left, by those before the step
pub left_after : (s : Step ⊤) (ps others : List (List Rule)) → policy_before (with_installed (first_policy ps) s) others ≡ ps → others ≡ policies_after s ps
left_after s ps others e = grind arith

-- further policies at the end don't change a step
pub step_stays : (s : Step ⊤) (ps others more : List (List Rule)) → policy_before (with_installed (first_policy ps) s) others ≡ ps
    → (with_installed (first_policy (ps ++ more)) s ≡ with_installed (first_policy ps) s) × (policies_after s (ps ++ more) ≡ policies_after s ps ++ more)
step_stays s ps others more e = grind arith

one_with_policies : (u : ℕ) (s : PlainStep) → with_policies ((u, with_installed tt s) ∷ []) (policy_before s []) ≡ asked (u, s) ∷ []
one_with_policies u s = grind arith

-- one more step
pub with_policies_more : (ss : List (ℕ × Step ⊤)) (ps : List (List Rule)) (u : ℕ) (s : PlainStep) → policies_in (with_policies ss ps) ≡ ps
    → with_policies (ss ++ (u, with_installed tt s) ∷ []) (ps ++ policy_before s []) ≡ with_policies ss ps ++ asked (u, s) ∷ []
with_policies_more [] ps u s e = subst (λ qs. with_policies ((u, with_installed tt s) ∷ []) (qs ++ policy_before s []) ≡ asked (u, s) ∷ []) e (one_with_policies u s)
with_policies_more (t ∷ rest) ps u s e =
    let others = policies_in (with_policies rest (policies_after t.1 ps)) in
    let stays = step_stays t.1 ps others (policy_before s []) e in
    ap₂ (λ (x : PlainStep) (qs : List (List Rule)). asked (t.0, x) ∷ with_policies (rest ++ (u, with_installed tt s) ∷ []) qs) stays.0 stays.1
    ∙ ap (λ xs. asked (t.0, with_installed (first_policy ps) t.1) ∷ xs) (with_policies_more rest (policies_after t.1 ps) u s (left_after t.1 ps others e))

bare_again : (p : List Rule) (s : Step ⊤) → with_installed tt (with_installed p s) ≡ s
bare_again p s = grind arith

-- one more bare step, with its policy
pub with_policies_bare : (ss : List (ℕ × Step ⊤)) (ps : List (List Rule)) (u : ℕ) (s : Step ⊤) (p : List Rule) → policies_in (with_policies ss ps) ≡ ps
    → with_policies (ss ++ (u, s) ∷ []) (ps ++ policy_before (with_installed p s) []) ≡ with_policies ss ps ++ with_policy p (u, s) ∷ []
with_policies_bare ss ps u s p e = subst (λ (b : Step ⊤). with_policies (ss ++ (u, b) ∷ []) (ps ++ policy_before (with_installed p s) []) ≡ with_policies ss ps ++ with_policy p (u, s) ∷ []) (bare_again p s) (with_policies_more ss ps u (with_installed p s) e)

before_more : (s : PlainStep) (ps more : List (List Rule)) → policy_before s (ps ++ more) ≡ policy_before s ps ++ more
before_more s ps more = grind arith

pub policies_more : (xs : List UserStep) (x : UserStep) → policies_in (xs ++ x ∷ []) ≡ policies_in xs ++ policy_before x.step []
policies_more [] x = refl
policies_more (a ∷ rest) x = ap (policy_before a.step) (policies_more rest x) ∙ before_more a.step (policies_in rest) (policy_before x.step [])

pub length_with_policies : (ss : List (ℕ × Step ⊤)) (ps : List (List Rule)) → length (with_policies ss ps) ≡ length ss
length_with_policies [] ps = refl
length_with_policies (s ∷ rest) ps = let more = length_with_policies rest (policies_after s.1 ps) in omega (arith, more)

pub asked_again : (xs : List UserStep) → map asked (map user_and_step xs) ≡ xs
asked_again [] = refl
asked_again (a ∷ rest) = ap (λ ys. a ∷ ys) (asked_again rest)
