-- One more step with its handler.
use Rattle.scenario_runs.proofs.CommonNames.{⊤, ◌≡◌, ℕ, ◌+◌, ◌<◌, ◌≤◌, List, [], ◌∷◌, ◌++◌, length, get_or, map, drop, Option, Some, None, refl, sym, ap, subst, ◌∙◌, append-nil, arith, at_drop_all, at_drop_more}
use Rattle.scenario_runs.proofs.CommonNames.{length-append, Rule, Step, Reply, Steps, Machine, Makes, PlainStep, with_handler, UserStep, map-push, asked, with_policies, first_policy, policies_after, policies_in}
use Rattle.scenario_runs.proofs.CommonNames.{first, policy_before, with_installed, IsAnswered, IsBound, left_after, append_assoc}

-- the steps from place i on, whose first is x, with the policies from there on
module _ (ss : List (ℕ × Step ⊤)) (i : ℕ) (x : ℕ × Step ⊤) (ps qs : List (List Rule)) (h : i < length ss) (here : get_or ss i x ≡ x) where
  with_policies_first : with_policies (drop i ss) ps ≡ asked (x.0, with_installed (first_policy ps) x.1) ∷ with_policies (drop (i + 1) ss) (policies_after x.1 ps)
  with_policies_first = at_drop_more (λ xs. with_policies xs ps) ss i x h ∙ ap (λ (y : ℕ × Step ⊤). with_policies (y ∷ drop (i + 1) ss) ps) here

  pub first_before : policies_in (with_policies (drop i ss) ps) ≡ ps → policy_before (with_installed (first_policy ps) x.1) (policies_in (with_policies (drop (i + 1) ss) (policies_after x.1 ps))) ≡ ps
  first_before each = sym (ap policies_in with_policies_first) ∙ each

  pub with_policies_next : qs ≡ policies_after x.1 ps → with_policies (drop i ss) ps ≡ asked (x.0, with_installed (first_policy ps) x.1) ∷ with_policies (drop (i + 1) ss) qs
  with_policies_next left = with_policies_first ∙ ap (λ rs. asked (x.0, with_installed (first_policy ps) x.1) ∷ with_policies (drop (i + 1) ss) rs) (sym left)

  pub each_next : policies_in (with_policies (drop i ss) ps) ≡ ps → qs ≡ policies_after x.1 ps → policies_in (with_policies (drop (i + 1) ss) qs) ≡ qs
  each_next each left = subst (λ rs. policies_in (with_policies (drop (i + 1) ss) rs) ≡ rs) (sym left) (left_after x.1 ps _ (first_before each))

-- the steps so far and one more
pub one_bound : (done now : List (ℕ × PlainStep)) (u : ℕ) (s t : PlainStep) (left rest all : List UserStep) → s ≡ t → now ≡ done ++ (u, s) ∷ [] → left ≡ asked (u, t) ∷ rest
    → map asked done ++ left ≡ all → map asked now ++ rest ≡ all
one_bound done now u s t left rest all same pushed first so_far = grind (arith, map-push asked done (u, t), append_assoc {A = UserStep})

pub one_longer : {X : Type 0} (done now : List X) (x : X) (n : ℕ) → now ≡ done ++ x ∷ [] → length done ≡ n → length now ≡ n + 1
one_longer done now x n pushed count = ap length pushed ∙ simp length-append (omega (arith, count))

-- no step is left
pub all_bound : (done : List (ℕ × PlainStep)) (ss : List (ℕ × Step ⊤)) (i : ℕ) (ps : List (List Rule)) (all : List UserStep) → length ss ≤ i → map asked done ++ with_policies (drop i ss) ps ≡ all → map asked done ≡ all
all_bound done ss i ps all past so_far = let past = at_drop_all (λ xs. with_policies xs ps) ss i past in grind (arith, past, append-nil {A = UserStep})

-- the next handler is there for each step that needs one
handler_there : (bare_step : Step ⊤) (ps others : List (List Rule)) → policy_before (with_installed (first_policy ps) bare_step) others ≡ ps → with_handler (first ps) bare_step ≡ Some (with_installed (first_policy ps) bare_step)
handler_there bare_step ps others had = grind (arith, had)

pub bound_there : (bare_step : Step ⊤) (ps qs others : List (List Rule)) (o : Option PlainStep) → IsBound bare_step ps qs o → policy_before (with_installed (first_policy ps) bare_step) others ≡ ps
    → (qs ≡ policies_after bare_step ps) × (o ≡ Some (with_installed (first_policy ps) bare_step))
bound_there bare_step ps qs others o bound had = (bound.0, bound.1 ∙ handler_there bare_step ps others had)

pub answered_there : (u : ℕ) (bare_step : Step ⊤) (ps qs others : List (List Rule)) (m n : Machine) (o : Option Reply) → IsAnswered u bare_step ps qs m n o → policy_before (with_installed (first_policy ps) bare_step) others ≡ ps
    → (qs ≡ policies_after bare_step ps) × Makes u (Some (with_installed (first_policy ps) bare_step)) m n o
answered_there u bare_step ps qs others m n o is had = (is.0, subst (λ step. Makes u step m n o) (handler_there bare_step ps others had) is.1)

-- a step that was made with no handler
pub needs_none : (u : ℕ) (bare_step : Step ⊤) (ps : List (List Rule)) (m n : Machine) (r : Reply) → Makes u (with_handler {B = List Rule} None bare_step) m n (Some r) → IsAnswered u bare_step ps ps m n (Some r)
needs_none u bare_step ps m n r h = grind arith

-- nor changed anything if it needs one
pub nothing_made : (u : ℕ) (o : Option PlainStep) (m n : Machine) → Makes u o m n None → n ≡ m
nothing_made u o m n h = grind arith

-- a step that was made with the handler that it was bound to
pub made_bound : (u : ℕ) (bare_step : Step ⊤) (ps qs : List (List Rule)) (s : PlainStep) (o : Option PlainStep) (m k : Machine) (r : Reply) → IsBound bare_step ps qs o → o ≡ Some s → Steps u s m k r
    → IsAnswered u bare_step ps qs m k (Some r)
made_bound u bare_step ps qs s o m k r bound is steps = (bound.0, subst (λ step. Makes u step m k (Some r)) (sym is ∙ bound.1) steps)

-- and one that found no handler
pub none_bound : (u : ℕ) (bare_step : Step ⊤) (ps qs : List (List Rule)) (o : Option PlainStep) (m : Machine) → IsBound bare_step ps qs o → o ≡ None → IsAnswered u bare_step ps qs m m None
none_bound u bare_step ps qs o m bound is = (bound.0, subst (λ step. Makes u step m m None) (sym is ∙ bound.1) (refl, refl))
