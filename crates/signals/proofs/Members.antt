-- The members of sets of signals.
use Rattle.signals.proofs.CommonNames.{◌≡◌, ℕ, zero, suc, ◌+◌, ◌-◌, ◌%◌, max, ◌<◌, ◌≤◌, Bool, true, false, arith, inl, inr, bit_or, rules, ◌==◌, not, ◌&&◌, ◌||◌, find, IfSome, IfNone, Option, Some}
use Rattle.signals.proofs.CommonNames.{None, bit_at, range_with_len, cases_lt, cases_Bool, bit_at_or, bit_at_xor, bit_at-lt, bit_at-pow_same, bit_at-pow_other, has, bit, without, lowest, IsSignal}
use Rattle.signals.proofs.CommonNames.{IsLowest, MembersAfter}
use Rattle.signals.proofs.Bits.{has-one, has-zero}

-- whether a signal is in the set, by its bit
pub has-bit : (set n : ℕ) → 1 ≤ n → has set n ≡ (bit_at set (n - 1) == 1)
has-bit set n some = search (rules, has-zero, has-one, bit_at-lt)

either_bit : (x y : ℕ) → x < 2 → y < 2 → (max x y == 1) ≡ ((x == 1) || (y == 1))
either_bit x y a b = grind arith

less_bit : (x y : ℕ) → x < 2 → y < 2 → ((max x y + y) % 2 == 1) ≡ ((x == 1) && not (y == 1))
less_bit x y a b = grind arith

pub has-union : (a b n : ℕ) → 1 ≤ n → has (bit_or a b) n ≡ (has a n || has b n)
has-union a b n some = search (rules, has-bit, bit_or, bit_at_or, either_bit, bit_at-lt)

pub has-difference : (a b n : ℕ) → 1 ≤ n → has (without a b) n ≡ (has a n && not (has b n))
has-difference a b n some = search (rules, has-bit, bit_at_xor, bit_or, bit_at_or, less_bit, bit_at-lt)

pub has-one_signal : (n m : ℕ) → 1 ≤ n → 1 ≤ m → has (bit n) m ≡ (m == n)
has-one_signal n m one some = search (rules, has-bit, cases_Bool, bit_at-pow_same, bit_at-pow_other)

pub members_after : (set other n m : ℕ) → IsSignal n → IsSignal m → MembersAfter set other n m
members_after set other n m one some = search (rules, has-union, has-one_signal, has-difference)

-- what a search over rising numbers finds is the least that passes
pub record IsFound (p : ℕ → Bool) (from end n : ℕ) : Type 0 where
  pub above : from ≤ n
  pub below : n < end
  pub passes : p n ≡ true
  pub least : (m : ℕ) → from ≤ m → m < end → p m ≡ true → n ≤ m

-- or it finds nothing, and none passes
abbrev pub IsOutcome : (ℕ → Bool) → ℕ → ℕ → Option ℕ → Type 0
IsOutcome p from end None = (m : ℕ) → from ≤ m → m < end → p m ≡ false
IsOutcome p from end (Some n) = IsFound p from end n

wider : (p : ℕ → Bool) (from left : ℕ) (o : Option ℕ) → p from ≡ false → IsOutcome p (from + 1) (from + 1 + left) o → IsOutcome p from (from + suc left) o
wider p from left None e h = search (rules, cases_lt)
wider p from left (Some n) e h = search (rules, cases_lt)

pub outcome : (p : ℕ → Bool) (from left : ℕ) → IsOutcome p from (from + left) (find p (range_with_len from left))
outcome p from zero = λ m low high. absurd (omega arith)
outcome p from (suc left) = elim (cases_Bool (p from)) [
  | inl e ↦ rw e record { above = omega arith; below = omega arith; passes = e; least = λ m low high pass. low }
  | inr e ↦ rw e (wider p from left (find p (range_with_len (from + 1) left)) e (outcome p (from + 1) left))
]

-- the lowest signal of a set
lowest_of : (set : ℕ) (o : Option ℕ) → IsOutcome (has set) 1 32 o → IfSome o (IsLowest set) × IfNone o ((m : ℕ) → IsSignal m → has set m ≡ false)
lowest_of set None h = (tt, λ m is. h m is.0 (let high = is.1 in omega arith))
lowest_of set (Some n) h = (record { signal = (h.above, (let below = h.below in omega arith)); member = h.passes; least = λ m is there. h.least m is.0 (let high = is.1 in omega arith) there }, tt)

pub lowest-some : (set : ℕ) → IfSome (lowest set) (IsLowest set)
lowest-some set = (lowest_of set (lowest set) (outcome (has set) 1 31)).0

pub lowest-none : (set : ℕ) → IfNone (lowest set) ((m : ℕ) → IsSignal m → has set m ≡ false)
lowest-none set = (lowest_of set (lowest set) (outcome (has set) 1 31)).1

pub ruleset lowest_laws = (lowest-some, lowest-none)
