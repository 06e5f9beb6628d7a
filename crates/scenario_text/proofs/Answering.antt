-- From the plan of a value to the scenario of the bytes.
use Rattle.scenario_text.proofs.CommonNames.{◌≡◌, refl, ap, List, ℕ, Result, Err, Option, ◌≤◌, ◌+◌, ◌++◌, length, sym, subst, arith, length-append, append_assoc, Consumes, Fault, Keeps, ReadConsumes}
use Rattle.scenario_text.proofs.CommonNames.{Memory, Gives, plan_of, AnswersBy, Plan, StandsFor, too_long, no_value, Takes}
use Rattle.scenario_text.specs.Scenarios.{value}

pub answers_by : {X Y : Type 0} (view : X → Y) (P : Result Y Fault → Type 0) (r : Result X Fault) (q : Result Y Fault) → Gives view r q → P q → AnswersBy view r P
answers_by view P (Err Memory) q is p = tt
answers_by view P r q is p = subst P (sym is) p

-- what a long front has, the whole has
pub ruleset stands = (too_long, no_value, value, length-append)

pub one : (bytes : List ℕ) (r q : Result Plan Fault) → StandsFor bytes r → StandsFor bytes q → r ≡ q
one bytes r q (too_long h) (too_long k) = refl
one bytes r q (too_long h) (no_value s k) = absurd (omega arith)
one bytes r q (too_long h) (value d s k) = absurd (omega arith)
one bytes r q (no_value s h) (too_long k) = absurd (omega arith)
one bytes r q (no_value s h) (no_value t k) = refl
one bytes r q (no_value s h) (value d t k) = let no = h k.0 in let yes = k.1 in cc
one bytes r q (value d s h) (too_long k) = absurd (omega arith)
one bytes r q (value d s h) (no_value t k) = let no = k h.0 in let yes = h.1 in cc
one bytes r q (value d s h) (value e t k) = let a = h.1 in let b = k.1 in let same : d ≡ e = cc in ap plan_of same

-- what two reads lost one after the other
pub takes_more : (a b c : Option (List ℕ)) (xs ys : List ℕ) (n : ℕ) → Consumes a b xs → Consumes b c ys → length xs + length ys ≤ n → Takes a c n
takes_more a b c xs ys n p q h = (xs ++ ys, simp length-append h, grind (arith, append_assoc {A = ℕ}))

-- a read after interrupted ones, which moved nothing
pub reads_behind : {E : Type 0} → (a b c : Option (List ℕ)) (r : Result ℕ E) (buf : List ℕ) → Keeps a b → ReadConsumes b c r buf → ReadConsumes a c r buf
reads_behind a b c r buf kept read = grind arith
