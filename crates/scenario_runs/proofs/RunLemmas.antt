-- The answers of a whole run.
use Rattle.scenario_runs.proofs.CommonNames.{⊤, ◌≡◌, ℕ, ◌≤◌, false, List, [], ◌∷◌, ◌++◌, length, map, drop, arith, append_assoc, Answered, map-push, Some, None, if◌then◌else◌, sym, ap, ap₂, subst, ◌∙◌, at_drop_all, Rule, Step, PlainStep, Reply, Steps}
use Rattle.scenario_runs.proofs.CommonNames.{Machine, is_memory, UserStep, replies, reply_given, MakesStep, did, asked, with_policies, answered, paired}

-- a reply other than ENOMEM is an answer
reply_given_made : (r : Reply) → is_memory r ≡ false → reply_given r ≡ Some r
reply_given_made r made = ap (λ b. if b then None else Some r) made

-- the answers to the steps that are left begin with the reply to the first of them
answers_to : (u : ℕ) (s : PlainStep) (r : Reply) (rest : List UserStep) (m k : Machine) → is_memory r ≡ false → Steps u s m k r
    → paired (asked (u, s) ∷ rest) (replies (asked (u, s) ∷ rest) m) ≡ answered (u, r) ∷ paired rest (replies rest k)
answers_to u s r rest m k made steps =
    let done : MakesStep (Some r) u s m k = subst (λ o. MakesStep o u s m k) (reply_given_made r made) (did steps) in
    sym (ap₂ (λ (q : Reply) (n : Machine). answered (u, q) ∷ paired rest (replies rest n)) done.0 done.1)

pub answers_next : (u : ℕ) (s : PlainStep) (r : Reply) (left rest : List UserStep) (m k : Machine) → left ≡ asked (u, s) ∷ rest
    → is_memory r ≡ false → Steps u s m k r → paired left (replies left m) ≡ answered (u, r) ∷ paired rest (replies rest k)
answers_next u s r left rest m k first made steps = ap (λ xs. paired xs (replies xs m)) first ∙ answers_to u s r rest m k made steps

-- after one more reply, those so far and the answers to come are still all answers
pub answers_more : (rs : List (ℕ × Reply)) (e : ℕ × Reply) (new : List (ℕ × Reply)) (next was all : List Answered) → new ≡ rs ++ e ∷ [] → was ≡ answered e ∷ next
    → map answered rs ++ was ≡ all → map answered new ++ next ≡ all
answers_more rs e new next was all pushed first whole = grind (arith, pushed, first, map-push, append_assoc {A = Answered})

-- no step is left
pub none_left : (ss : List (ℕ × Step ⊤)) (i : ℕ) (ps : List (List Rule)) (m : Machine) → length ss ≤ i
    → paired (with_policies (drop i ss) ps) (replies (with_policies (drop i ss) ps) m) ≡ []
none_left ss i ps m past = at_drop_all (λ xs. paired (with_policies xs ps) (replies (with_policies xs ps) m)) ss i past
