-- A walk over processes by rising numbers.
use Rattle.requests.proofs.CommonNames.{◌≡◌, ℕ, ◌<◌, List, [], ◌∷◌, ◌++◌, map, filter, find, Option, Bool, true, ◌&&◌, ltb, Some, None, refl, sym, ap, ◌∙◌, arith, lt-ltb, append-nil, rules}
use Rattle.requests.proofs.CommonNames.{AllByRecursion, le-ltb, ltb-true, ProcData, AllAbove, Rise, InOwnBlock, and_left, found_above, append_assoc}

-- Processes that pass a test
module _ (t : ProcData → Bool) where
  -- those above a number, and the first of them
  abbrev pub above : ℕ → List ProcData → List ProcData
  above n ps = filter (λ p. ltb n p.pid && t p) ps

  abbrev pub first_above : ℕ → List ProcData → Option ProcData
  first_above n ps = find (λ p. ltb n p.pid && t p) ps

  pub above_none : (n : ℕ) (ps : List ProcData) → first_above n ps ≡ None → above n ps ≡ []
  above_none n [] is = refl
  above_none n (p ∷ ps) is = grind (arith, above_none n ps, is)

  pub above_first : (ps : List ProcData) → AllByRecursion InOwnBlock ps → above 0 ps ≡ filter t ps
  above_first [] all = refl
  above_first (p ∷ ps) all = let low = all.0.block.0 in let some : ltb 0 p.pid ≡ true = lt-ltb 0 p.pid (omega arith) in rw (some, above_first ps all.1) refl

  above_under : (n m : ℕ) (ps : List ProcData) → n < m → AllAbove m ps → above n ps ≡ above m ps
  above_under n m [] lt all = refl
  above_under n m (p ∷ ps) lt all = let over : ltb n p.pid ≡ true = lt-ltb n p.pid (omega (arith, lt, all.0)) in rw (over, lt-ltb m p.pid all.0, above_under n m ps lt all.1) refl

  pub next_over : (n : ℕ) (ps : List ProcData) (p : ProcData) → first_above n ps ≡ Some p → n < p.pid
  next_over n [] p is = absurd (grind (arith, is))
  next_over n (q ∷ ps) p is = search (rules, next_over n ps p, ltb-true, and_left)

  pub above_next : (n : ℕ) (ps : List ProcData) (p : ProcData) → Rise ps → first_above n ps ≡ Some p → above n ps ≡ p ∷ above p.pid ps
  above_next n [] p rise is = absurd (grind (arith, is))
  above_next n (q ∷ ps) p rise is = search (rules, above_next n ps p rise.1, le-ltb, above_under, ltb-true, and_left, found_above)

abbrev pub pids : List ProcData → List ℕ
pids ps = map (λ p. p.pid) ps

-- one number more is listed
pub listed_next : (t : ProcData → Bool) (n : ℕ) (ps : List ProcData) (p : ProcData) (had all : List ℕ) → Rise ps → first_above t n ps ≡ Some p → had ++ pids (above t n ps) ≡ all → (had ++ (p.pid ∷ [])) ++ pids (above t p.pid ps) ≡ all
listed_next t n ps p had all rise is listed = append_assoc had (p.pid ∷ []) (pids (above t p.pid ps)) ∙ ap (λ xs. had ++ pids xs) (sym (above_next t n ps p rise is)) ∙ listed

-- the walk's end
pub listed_all : (t : ProcData → Bool) (n : ℕ) (ps : List ProcData) (had all : List ℕ) → first_above t n ps ≡ None → had ++ pids (above t n ps) ≡ all → had ≡ all
listed_all t n ps had all is listed = sym (append-nil had) ∙ ap (λ xs. had ++ pids xs) (sym (above_none t n ps is)) ∙ listed
