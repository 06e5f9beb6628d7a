-- What a search with a test does.
use Rattle.std.specs.Prelude.{ℕ, ◌≡◌, ◌≤◌, ◌<◌, Bool}

-- for each number from low to below high, each result of a call is the test's
abbrev pub Decides : (ℕ → Bool → Type 0) → ℕ → ℕ → (ℕ → Bool) → Type 0
Decides post low high test = (n : ℕ) (b : Bool) → low ≤ n → n < high → post n b → b ≡ test n
