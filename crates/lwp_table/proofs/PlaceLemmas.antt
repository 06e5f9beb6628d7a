-- Values of places: what becomes of them when one is set.
use Rattle.std.proofs.Common.{◌≡◌, ℕ, ◌+◌, ◌<◌, ◌≤◌, true, false, List, [], ◌∷◌, ◌++◌, length, get_or, set, replicate, count_by, cond, refl, sym, ap, ◌∙◌, arith, inl, inr, length-append, length-set, get_or-set_other}
use Rattle.std.proofs.lemmas.List.{get_or-map, get_or-set_same, get_or-replicate, length-map, get_or_append_left, get_or_past, ext_get_or}
use Rattle.std.proofs.lemmas.List.Sums.{count_by-le-length, sum_by-set}
use Rattle.std.proofs.lemmas.Bool.Decides.{eqb_tells, nat_tests}
use Rattle.lwp_table.proofs.CountLemmas.{one}
use Rattle.lwp_table.specs.Places.{is_given, placed, ArePlaced}

-- a place gets an index, and so one more has one
count_given : (is : List ℕ) (p v : ℕ) → p < length is → is_given (get_or is p 0) ≡ false → is_given v ≡ true → count_by is_given (set is p v) ≡ count_by is_given is + 1
count_given is p v low none some = omega (arith, sum_by-set (λ i. cond (is_given i) 1 0) is p v 0 low, ap one none, ap one some)

-- the value that was added last
pub last_added : {X : Type 0} (xs : List X) (x d : X) → get_or (xs ++ x ∷ []) (length xs) d ≡ x
last_added [] x d = refl
last_added (y ∷ ys) x d = last_added ys x d

-- no place has a value yet
pub none_placed : ArePlaced (replicate 64 255) 0
none_placed = record {
  long = refl;
  all = refl;
  below = λ p low given. grind (arith, nat_tests, get_or-replicate {A = ℕ} 64 p 255 0);
  apart = λ p q low high given same. grind (arith, nat_tests, get_or-replicate {A = ℕ} 64 p 255 0);
}

module _ {X : Type 0} (d : X) (xs : List X) (is : List ℕ) (are : ArePlaced is (length xs)) where
  pub few : length xs ≤ 64
  few = omega (arith, are.all, are.long, count_by-le-length is_given is)

  -- an index past all values is that of none
  pub is_none : (p : ℕ) → p < 64 → length xs ≤ get_or is p 0 → is_given (get_or is p 0) ≡ false
  is_none p low past = grind (arith, nat_tests, are.below p)

  -- then fewer than 64 places have values
  pub free : (p : ℕ) → p < 64 → length xs ≤ get_or is p 0 → length xs < 64
  free p low past = omega (arith, are.all, are.long, length-set is p 0, count_by-le-length is_given (set is p 0), count_given is p 0 (omega (arith, are.long, low)) (is_none p low past) refl)

  pub value_at : (p : ℕ) → p < 64 → get_or (placed d xs is) p d ≡ get_or xs (get_or is p 0) d
  value_at p low = get_or-map (λ i. get_or xs i d) is p 0 d (omega (arith, are.long, low))

  pub long_placed : length (placed d xs is) ≡ 64
  long_placed = length-map is (λ i. get_or xs i d) ∙ are.long

  -- a value is replaced
  pub replaced : (p : ℕ) (x : X) → p < 64 → get_or is p 0 < length xs → placed d (set xs (get_or is p 0) x) is ≡ set (placed d xs is) p x
  replaced p x low there = ext_get_or d _ _ (length-map is (λ i. get_or (set xs (get_or is p 0) x) i d) ∙ sym (length-set (placed d xs is) p x ∙ length-map is (λ i. get_or xs i d))) (λ k within.
      grind (
        arith,
        nat_tests,
        are.long,
        few,
        are.apart p k low,
        get_or-map (λ i. get_or (set xs (get_or is p 0) x) i d) is k 0 d,
        get_or-map (λ i. get_or xs i d) is k 0 d,
        length-map,
        get_or-set_same xs (get_or is p 0) x d,
        get_or-set_other xs (get_or is p 0) (get_or is k 0) x d,
        get_or-set_same (placed d xs is) p x d,
        get_or-set_other (placed d xs is) p k x d,
      ))

  -- a place that had none gets a value
  module _ (p : ℕ) (low : p < 64) (past : length xs ≤ get_or is p 0) where
    pub are_with : ArePlaced (set is p (length xs)) (length xs + 1)
    are_with = record {
      long = length-set is p (length xs) ∙ are.long;
      all = count_given is p (length xs) (omega (arith, are.long, low)) (is_none p low past) (grind (arith, nat_tests, few)) ∙ ap (λ n. n + 1) are.all;
      below = λ q within given. grind (arith, nat_tests, are.long, are.below q, get_or-set_same is p (length xs) 0, get_or-set_other is p q (length xs) 0);
      apart = λ q r q_low r_low given same. grind (arith, nat_tests, are.long, are.apart q r q_low r_low, are.below q q_low, are.below r r_low, get_or-set_same is p (length xs) 0, get_or-set_other is p q (length xs) 0, get_or-set_other is p r (length xs) 0);
    }

    -- the others keep theirs
    kept : (x : X) (k : ℕ) → k < 64 → get_or (xs ++ x ∷ []) (get_or is k 0) d ≡ get_or xs (get_or is k 0) d
    kept x k within = grind (arith, nat_tests, are.below k within, few, free p low past, length-append xs (x ∷ []), get_or_append_left xs (x ∷ []) d (get_or is k 0), get_or_past xs (get_or is k 0) d, get_or_past (xs ++ x ∷ []) (get_or is k 0) d)

    one_more : (x : X) (k : ℕ) → k < 64 → get_or (placed d (xs ++ x ∷ []) (set is p (length xs))) k d ≡ get_or (set (placed d xs is) p x) k d
    one_more x k within =
        let of_new = get_or-map (λ i. get_or (xs ++ x ∷ []) i d) (set is p (length xs)) k 0 d (omega (arith, within, length-set is p (length xs), are.long)) in
        elim (eqb_tells p k) [
          | inl h ↦
              of_new ∙ ap (λ i. get_or (xs ++ x ∷ []) i d) (rw (← h.1) (get_or-set_same is p (length xs) 0 (omega (arith, low, are.long)))) ∙ last_added xs x d
              ∙ rw (← h.1) (sym (get_or-set_same (placed d xs is) p x d (omega (arith, low, long_placed))))
          | inr h ↦
              of_new ∙ ap (λ i. get_or (xs ++ x ∷ []) i d) (get_or-set_other is p k (length xs) 0 (λ e. h.1 (sym e))) ∙ kept x k within ∙ sym (value_at k within)
              ∙ sym (get_or-set_other (placed d xs is) p k x d (λ e. h.1 (sym e)))
        ]

    pub placed_with : (x : X) → placed d (xs ++ x ∷ []) (set is p (length xs)) ≡ set (placed d xs is) p x
    placed_with x =
        let long = length-map (set is p (length xs)) (λ i. get_or (xs ++ x ∷ []) i d) ∙ length-set is p (length xs) ∙ are.long in
        ext_get_or d _ _ (long ∙ sym (length-set (placed d xs is) p x ∙ long_placed)) (λ k within. one_more x k (omega (arith, within, long)))
