-- Values of 64 places. A place that was never set has a default value, which takes no memory.
use Rattle.std.specs.Prelude.{◌≡◌, ℕ, ◌-◌, ◌<◌, ◌==◌, Bool, true, not, List, length, get_or, map, count_by, leb, if◌then◌else◌}

-- whether a place with this index has a value of its own; 255 is the index of none
abbrev pub is_given : ℕ → Bool
is_given i = not (i == 255)

-- the values of all places, by the values that were set and the places' indices into them
abbrev pub placed : {X : Type 0} → X → List X → List ℕ → List X
placed default values indices = map (λ i. get_or values i default) indices

-- the places have indices of their own into this many values
pub record ArePlaced (indices : List ℕ) (count : ℕ) : Type 0 where
  pub long : length indices ≡ 64
  pub all : count_by is_given indices ≡ count
  pub below : (p : ℕ) → p < 64 → is_given (get_or indices p 0) ≡ true → get_or indices p 0 < count
  pub apart : (p q : ℕ) → p < 64 → q < 64 → is_given (get_or indices p 0) ≡ true → get_or indices p 0 ≡ get_or indices q 0 → p ≡ q

-- how many more places can be set without memory: all of them, once there is room for 64 values
abbrev pub room_of : (capacity count : ℕ) → ℕ
room_of capacity count = if leb 64 capacity then 18446744073709551615 else capacity - count
