-- The next process of a user that isn't the caller.
use Rattle.requests.proofs.CommonNames.{◌≡◌, ℕ, ◌<◌, List, [], ◌∷◌, Some, None, refl, arith, lt-ltb, eqb-true, eq-eqb, rules, option_map, nat_tests, le-ltb, ltb-true, ProcData, AllAbove, Rise}
use Rattle.requests.proofs.CommonNames.{and_left, by_bool, some_is, next_other, found_above}
use Rattle.proc_table.specs.Walks.{next_of}

module _ (u caller : ℕ) where
  pub other_same : (after : ℕ) (ps : List ProcData) → (option_map (λ p. p.pid) (next_of u after ps) ≡ Some caller → ⊥) → next_other u caller after ps ≡ next_of u after ps
  other_same after [] h = refl
  other_same after (p ∷ ps) h = grind (arith, nat_tests, other_same after ps, eqb-true, h)

  past : (after : ℕ) (ps : List ProcData) → after < caller → AllAbove caller ps → next_other u caller after ps ≡ next_of u caller ps
  past after [] lt all = refl
  past after (p ∷ ps) lt all = search (rules, past after ps lt all.1, lt-ltb, by_bool, eqb-true)

  pub other_next : (after : ℕ) (ps : List ProcData) → Rise ps → option_map (λ p. p.pid) (next_of u after ps) ≡ Some caller → next_other u caller after ps ≡ next_of u caller ps
  other_next after [] rise is = absurd (let bad : None ≡ Some caller = is in cc)
  other_next after (p ∷ ps) rise is = grind (arith, nat_tests, some_is, ltb-true, and_left, eq-eqb, le-ltb, past, found_above, other_next after ps rise.1)

pub ruleset other_laws = (other_same, other_next, some_is)
