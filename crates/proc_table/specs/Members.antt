-- Sets of numbers as pages of 16 words of 64 bits: the set contains number n if bit n % 64 of word n / 64 is 1.
use Rattle.std.specs.{Prelude.{◌≡◌, ℕ, [], ◌<◌, ◌/◌, ◌%◌, ◌==◌, Bool, List, length, get_or}, Int.bit_at}
use Rattle.lwp_table.specs.Places.{ArePlaced}

-- the pages of a set, and how many more can be begun without memory; a page that was never begun is empty
pub record Numbers : Type 0 where
  pub pages : List (List ℕ)
  pub spare : ℕ

-- the bound below which each number has a bit
abbrev pub max_number : ℕ
max_number = 65536

abbrev pub has_bit : ℕ → ℕ → Bool
has_bit word place = bit_at word place == 1

-- word k of a set; those of an empty page are 0
abbrev pub word_at : List (List ℕ) → ℕ → ℕ
word_at pages k = get_or (get_or pages (k / 16) []) (k % 16) 0

abbrev pub member : List (List ℕ) → ℕ → Bool
member pages n = has_bit (word_at pages (n / 64)) (n % 64)

-- the page of word k was begun
abbrev pub IsBegun : List (List ℕ) → ℕ → Type 0
IsBegun pages k = 0 < length (get_or pages (k / 16) [])

-- the invariant of a set's pages and their places
pub record IsPaged (indices : List ℕ) (pages : List (List ℕ)) : Type 0 where
  pub placed : ArePlaced indices (length pages)
  pub full : (i : ℕ) → i < length pages → length (get_or pages i []) ≡ 16
