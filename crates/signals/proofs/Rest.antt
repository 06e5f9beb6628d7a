-- A set's signals, rising: the lowest one and then those of the set without it.
use Rattle.signals.proofs.CommonNames.{nat_tests, ◌≡◌, ℕ, zero, suc, ◌+◌, ◌<◌, ◌≤◌, Bool, true, false, [], ◌∷◌, arith, refl, inl, inr, rules, ◌==◌, not, ◌&&◌, filter, Some, None, range_with_len}
use Rattle.signals.proofs.CommonNames.{cases_lt, cases_Bool, eq-eqb, ne_eqb, has, bit, without, lowest, IsLowest}
use Rattle.signals.specs.Sets.{members}
use Rattle.signals.proofs.Members.{members_after, lowest-some, lowest-none}

-- two tests that agree on all the numbers let the same ones pass
filter-same : (p q : ℕ → Bool) (from left : ℕ) → ((m : ℕ) → from ≤ m → m < from + left → q m ≡ p m) → filter p (range_with_len from left) ≡ filter q (range_with_len from left)
filter-same p q from zero same = refl
filter-same p q from (suc left) same = grind (arith, nat_tests, filter-same p q (from + 1) left (λ m low high. same m (omega arith) (omega arith)))

-- a test that lets no number pass
filter-none : (p : ℕ → Bool) (from left : ℕ) → ((m : ℕ) → from ≤ m → m < from + left → p m ≡ false) → filter p (range_with_len from left) ≡ []
filter-none p from zero none = refl
filter-none p from (suc left) none = grind (arith, nat_tests, filter-none p (from + 1) left (λ m low high. none m (omega arith) (omega arith)))

-- the first number that passes, and the others by the test that it fails
filter-first : (p q : ℕ → Bool) (n from left : ℕ) → from ≤ n → n < from + left → p n ≡ true → ((m : ℕ) → from ≤ m → m < n → p m ≡ false)
    → ((m : ℕ) → from ≤ m → m < from + left → q m ≡ (p m && not (m == n))) → filter p (range_with_len from left) ≡ n ∷ filter q (range_with_len from left)
filter-first p q n from zero low high passes before others = absurd (omega arith)
filter-first p q n from (suc left) low high passes before others = search (rules, filter-first p q n (from + 1) left, cases_lt, eq-eqb, filter-same, ne_eqb)

pub members-first : (set n : ℕ) → lowest set ≡ Some n → members set ≡ n ∷ members (without set (bit n))
unfolding members
members-first set n first =
    let h : IsLowest set n = rw first at (lowest-some set) in
    filter-first (has set) (has (without set (bit n))) n 1 31 h.signal.0 (omega arith) h.member
    (λ m low less. elim (cases_Bool (has set m)) [
      | inl there ↦ absurd (omega (arith, less, h.least m (low, omega (arith, less, h.signal.1)) there))
      | inr gone ↦ gone
    ])
    (λ m low less. (members_after set 0 n m h.signal (low, omega arith)).removed)

pub members-none : (set : ℕ) → lowest set ≡ None → members set ≡ []
unfolding members
members-none set none = let gone = rw none at (lowest-none set) in filter-none (has set) 1 31 (λ m low high. gone m (low, omega arith))

pub ruleset members_laws = (members-first, members-none)
