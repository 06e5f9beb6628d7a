-- The rules and the steps of an array, so far.
use Rattle.scenario_text.proofs.CommonNames.{◌≡◌, ◌+◌, ◌<◌, ◌≤◌, List, [], ◌∷◌, ◌++◌, length, Result, Ok, Err, ℕ, refl, sym, ◌∙◌, arith, cases_lt, nat_tests, append_assoc, append-nil, Data, Items}
use Rattle.scenario_text.proofs.CommonNames.{no_items, item, items_len, UserStep, Rule, Fault, KeyError, TooManyRules, Listed, RuleList, ◌>>=◌, each, IsListOf, pushed, rules_taken, taken, max_steps}
use Rattle.scenario_text.proofs.CommonNames.{rule_of, policy_of, steps_from}

-- the results before these, and one before those
none_before : {X E : Type 0} (r : Result (List X) E) → r ≡ (r >>= (λ xs. Ok ([] ++ xs)))
none_before r = grind arith

one_before : {X E : Type 0} (so_far : Result (List X) E) (one : Result X E) (rest : Result (List X) E)
    → (so_far >>= (λ xs. (one >>= (λ x. rest >>= (λ ys. Ok (x ∷ ys)))) >>= (λ ys. Ok (xs ++ ys)))) ≡ (pushed so_far one >>= (λ xs. rest >>= (λ ys. Ok (xs ++ ys))))
one_before {X} so_far one rest = grind (arith, append_assoc {A = X})

all_before : {X E : Type 0} (r : Result (List X) E) → (r >>= (λ xs. Ok (xs ++ []))) ≡ r
all_before {X} r = grind (arith, append-nil {A = X})

-- ---- the items that are taken, up to a most

-- by the results of the items so far, and those of the items from a number on
pub record Has {X E : Type 0} (most : ℕ) (from : ℕ → Items → Result (List X) E) (front : Items → Items) (count : ℕ) (so_far : Result (List X) E) : Type 0 where
  pub few : count ≤ most → (ds : Items) → (items_len (front ds) ≡ count + items_len ds) × (from 0 (front ds) ≡ (so_far >>= (λ xs. from count ds >>= (λ ys. Ok (xs ++ ys)))))
  pub many : most < count → (ds : Items) → most < items_len (front ds)

module _ {X E : Type 0} (most : ℕ) (from : ℕ → Items → Result (List X) E) (count : ℕ) (so_far : Result (List X) E) where
  pub none_taken : count ≡ 0 → so_far ≡ Ok [] → Has most from (λ ds. ds) count so_far
  none_taken none is = record {
    few = λ h ds. (omega (arith, none), rw (is, none) (none_before (from 0 ds)));
    many = λ h. absurd (omega (arith, h, none));
  }

  module _ (front : Items → Items) (h : Has most from front count so_far) where
    pub one_taken : (now : ℕ) (new : Result (List X) E) (d : Data) (one : Result X E) → count < most → now ≡ count + 1 → new ≡ pushed so_far one
        → ((ds : Items) → from count (item d ds) ≡ (one >>= (λ x. from (count + 1) ds >>= (λ xs. Ok (x ∷ xs))))) → Has most from (λ ds. front (item d ds)) now new
    one_taken now new d one room more is next = record {
      few = λ k ds. let was = h.few (omega (arith, room)) (item d ds) in (was.0 ∙ omega (arith, more), rw (was.1, next ds, is, more) (one_before so_far one (from (count + 1) ds)));
      many = λ k. absurd (omega (arith, k, more, room));
    }

    pub passed : (now : ℕ) (new : Result (List X) E) (d : Data) → most ≤ count → now ≡ most + 1 → Has most from (λ ds. front (item d ds)) now new
    passed now new d full more = record {
      few = λ k. absurd (omega (arith, k, more));
      many = λ k ds. grind (arith, full, cases_lt most count, h.few, h.many);
    }

    pub all_taken : count ≤ most → from count no_items ≡ Ok [] → so_far ≡ from 0 (front no_items)
    all_taken few last = let was = h.few few no_items in sym (was.1 ∙ rw last (all_before so_far))

-- ---- rules

abbrev rules_from : ℕ → Items → Result (List Rule) KeyError
rules_from n ds = each (λ _ d. rule_of d) n ds

abbrev pub HasRules : (Items → Items) → RuleList → Type 0
HasRules front l = Has 16 rules_from front l.count (rules_taken l)

pub few_rules : (front : Items → Items) (l : RuleList) → HasRules front l → l.count ≤ 16 → rules_taken l ≡ policy_of (front no_items)
few_rules front l h few = grind (arith, nat_tests, h.few few no_items, all_taken 16 rules_from l.count (rules_taken l) front h few refl)

pub many_rules : (front : Items → Items) (l : RuleList) → HasRules front l → 16 < l.count → Err TooManyRules ≡ policy_of (front no_items)
many_rules front l h many = grind (arith, nat_tests, h.many many no_items)

-- ---- steps

abbrev pub later_steps : ℕ → Items → Result (List UserStep) Fault
later_steps n ds = steps_from (n + 1) ds

abbrev pub HasSteps : (Items → Items) → Listed → Type 0
HasSteps front l = Has max_steps later_steps front l.count (taken l)

pub is_list : (front : Items → Items) (l : Listed) → HasSteps front l → length l.steps ≤ l.count → IsListOf l (front no_items)
is_list front l h short = record {
  few = λ k. let was = h.few k no_items in (omega (arith, was.0, k), all_taken max_steps later_steps l.count (taken l) front h k refl);
  many = λ k. h.many k no_items;
  short = short;
}
