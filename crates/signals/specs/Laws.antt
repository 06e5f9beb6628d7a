-- What the tables and the sets of signals state for each signal.
use Rattle.std.specs.Prelude.{ℕ, ◌≡◌, ◌≤◌, true, not, ◌&&◌, ◌||◌, ◌==◌, List, [], ◌∷◌}
use Rattle.std.specs.Int.RustNames.{bit_or}
use Rattle.signals.specs.Sets.{has, bit, with, without}
use Rattle.signals.specs.Table.{default_action}
use Rattle.signals.specs.Names.{Row}

-- a signal's number
abbrev pub IsSignal : ℕ → Type 0
IsSignal n = (1 ≤ n) × (n ≤ 31)

-- the members of a set after each change
pub record MembersAfter (set other n m : ℕ) : Type 0 where
  pub added : has (with set n) m ≡ (has set m || (m == n))
  pub removed : has (without set (bit n)) m ≡ (has set m && not (m == n))
  pub joined : has (bit_or set other) m ≡ (has set m || has other m)
  pub left : has (without set other) m ≡ (has set m && not (has other m))

-- the lowest signal is a member, and no member is below it; an empty set has none
pub record IsLowest (set n : ℕ) : Type 0 where
  pub signal : IsSignal n
  pub member : has set n ≡ true
  pub least : (m : ℕ) → IsSignal m → has set m ≡ true → n ≤ m

-- each row's action is the default action of its signal
abbrev pub AllAct : List Row → Type 0
AllAct [] = Unit {0}
AllAct (r ∷ rows) = (default_action r.number ≡ r.action) × AllAct rows
