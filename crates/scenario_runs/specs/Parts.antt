-- A text that is written in parts.
use Rattle.std.specs.Prelude.{⊤, ◌≡◌, ℕ, Bool, true, false, List, ◌++◌, Option, take}
use Rattle.std.specs.Io.KnownBytes.{Appends, Keeps}

-- nothing was written yet
abbrev pub Unbegun : Bool → (before now : Option (List ℕ)) → Type 0
Unbegun true before now = ⊤
Unbegun false before now = Keeps before now

-- what was written, the text that is written next, and the rest are all; nothing was written before the first part
pub record Parted (before now : Option (List ℕ)) (text rest all : List ℕ) (is_begun : Bool) : Type 0 where
  pub done : List ℕ
  pub written : Appends before now done
  pub whole : (done ++ text) ++ rest ≡ all
  pub kept : Unbegun is_begun before now

-- the beginning of the text was written
abbrev pub Begins : (before now : Option (List ℕ)) → (all : List ℕ) → Type 0
Begins before now all = (n : ℕ) × Appends before now (take n all)
