-- Rows gathered by a walk: those had so far, and those that are left.
use Rattle.visibility.proofs.CommonNames.{◌≡◌, ℕ, zero, suc, ◌+◌, ◌≤◌, List, [], ◌∷◌, ◌++◌, filter, map, drop, length, Option, Some, None, Bool, true, false, refl, arith, append_assoc, append-nil}
use Rattle.visibility.proofs.CommonNames.{rules, slice_get, option_map, length-append, slice_get_within, ProcData, Rise, Rule, Installed, above, first_above, above_next, get_or_from_slice_get}
use Rattle.std.proofs.Math.Seq.{drop-cons}
use Rattle.visibility.proofs.Answered.{map-push}

-- one process more
pub row_next : (t : ProcData → Bool) (n : ℕ) (ps : List ProcData) (p : ProcData) (had all : List ProcData) → Rise ps → first_above t n ps ≡ Some p → had ++ above t n ps ≡ all → (had ++ (p ∷ [])) ++ above t p.pid ps ≡ all
row_next t n ps p had all rise is listed = rw (append_assoc had (p ∷ []) (above t p.pid ps), ← above_next t n ps p rise is) listed

-- what a place has, and what is left from there
pub left_at : {X : Type 0} (xs : List X) (i : ℕ) (x : X) → slice_get xs i ≡ Some x → drop i xs ≡ x ∷ drop (suc i) xs
left_at xs i x is = rw (drop-cons xs i x (slice_get_within xs i x is), get_or_from_slice_get xs i x x is) refl

pub none_left : {X : Type 0} (xs : List X) (i : ℕ) → slice_get xs i ≡ None → drop i xs ≡ []
none_left [] zero is = refl
none_left [] (suc i) is = refl
none_left (y ∷ ys) zero is = absurd (grind (arith, is))
none_left (y ∷ ys) (suc i) is = none_left ys i is

-- a list copied by places, each element written by f
module _ {X Y : Type 0} (f : X → Y) (xs : List Y) (ps : List X) where
  pub copied_next : (p : X) → slice_get xs (length ps) ≡ Some (f p) → map f ps ++ drop (length ps) xs ≡ xs
      → (length (ps ++ (p ∷ [])) ≤ length xs) × (map f (ps ++ (p ∷ [])) ++ drop (length (ps ++ (p ∷ []))) xs ≡ xs)
  copied_next p is was =
      let longer : length (ps ++ (p ∷ [])) ≡ suc (length ps) = simp length-append (omega arith) in
      let here = slice_get_within xs (length ps) (f p) is in
      (omega (arith, here, longer), rw (longer, map-push f ps p, append_assoc (map f ps) (f p ∷ []) (drop (suc (length ps)) xs), ← left_at xs (length ps) (f p) is) was)

  pub copied_all : slice_get xs (length ps) ≡ None → map f ps ++ drop (length ps) xs ≡ xs → map f ps ≡ xs
  copied_all is was = search (rules, none_left, append-nil)

-- what a debugger has installed, and the pair that it is read as
abbrev pub as_pair : Installed → ℕ × List Rule
as_pair i = (i.debugger, i.policy)

abbrev pub as_installed : ℕ × List Rule → Installed
as_installed pair = record { debugger = pair.0; policy = pair.1 }

pub some_installed : (o : Option Installed) (pair : ℕ × List Rule) → option_map as_pair o ≡ Some pair → o ≡ Some (as_installed pair)
some_installed o pair is = grind (arith, is)

pub none_installed : (o : Option Installed) → option_map as_pair o ≡ None → o ≡ None
none_installed o is = grind (arith, is)
