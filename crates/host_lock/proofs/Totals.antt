-- Totals over the views of all seats.
use Rattle.host_lock.proofs.CommonNames.{◌≡◌, ◌≢◌, ℕ, zero, suc, ◌+◌, ◌≤◌, List, [], ◌∷◌, ◌++◌, set, cond, sym, refl, ap, subst, ⊎_elim, arith, eq-eqb, ne_eqb, some, some-injective, some-ne-none, ℕ_discrete, get_elem?, at_set}
use Rattle.host_lock.proofs.CommonNames.{dite, at_snoc, total, once, Each}
use Rattle.std.specs.List.{All}

pub once_same : (n t : ℕ) → n ≡ t → once n t ≡ 1
once_same n t e = ap (λ b. cond b 1 0) (eq-eqb n t e)

pub once_else : (n t : ℕ) → n ≢ t → once n t ≡ 0
once_else n t e = ap (λ b. cond b 1 0) (ne_eqb n t e)

module _ {V : Type 0} where
  pub total_set : (f : V → ℕ) (l : List V) (i : ℕ) (v w : V) → get_elem? l i ≡ some v → total f (set l i w) + f v ≡ total f l + f w
  total_set f [] i v w e = absurd (some-ne-none v (sym e))
  total_set f (x ∷ xs) zero v w e = let is : f x ≡ f v = ap f (some-injective x v e) in omega arith
  total_set f (x ∷ xs) (suc i) v w e = let r = total_set f xs i v w e in omega arith

  pub total_snoc : (f : V → ℕ) (l : List V) (w : V) → total f (l ++ w ∷ []) ≡ total f l + f w
  total_snoc f [] w = omega arith
  total_snoc f (x ∷ xs) w = let r = total_snoc f xs w in omega arith

  pub total_one : (f : V → ℕ) (l : List V) (i : ℕ) (v : V) → get_elem? l i ≡ some v → f v ≤ total f l
  total_one f [] i v e = absurd (some-ne-none v (sym e))
  total_one f (x ∷ xs) zero v e = let is : f x ≡ f v = ap f (some-injective x v e) in omega arith
  total_one f (x ∷ xs) (suc i) v e = let r = total_one f xs i v e in omega arith

  pub total_two : (f : V → ℕ) (l : List V) (i j : ℕ) (v w : V) → i ≢ j → get_elem? l i ≡ some v → get_elem? l j ≡ some w → f v + f w ≤ total f l
  total_two f [] i j v w ne e d = absurd (some-ne-none v (sym e))
  total_two f (x ∷ xs) zero zero v w ne e d = absurd (ne refl)
  total_two f (x ∷ xs) zero (suc j) v w ne e d = let is : f x ≡ f v = ap f (some-injective x v e) in let r = total_one f xs j w d in omega arith
  total_two f (x ∷ xs) (suc i) zero v w ne e d = let is : f x ≡ f w = ap f (some-injective x w d) in let r = total_one f xs i v e in omega arith
  total_two f (x ∷ xs) (suc i) (suc j) v w ne e d = let r = total_two f xs i j v w (λ q. ne (ap suc q)) e d in omega arith

  -- some seat makes the total positive
  pub total_find : (f : V → ℕ) (l : List V) → total f l ≡ 1 → (i : ℕ) × (v : V) × (get_elem? l i ≡ some v) × (f v ≡ 1)
  total_find f [] e = absurd (omega arith)
  total_find f (x ∷ xs) e = dite (ℕ_discrete (f x) 0) (λ z. let r = total_find f xs (omega arith) in (suc r.0, r.1, r.2, r.3)) (λ nz. (zero, x, refl, omega arith))

  -- a fact of each seat, after one has another view
  pub seats_set : (K K' : V → Type 0) (l : List V) (id : ℕ) (w : V) → K' w → ((j : ℕ) (d : V) → j ≢ id → get_elem? l j ≡ some d → K d → K' d)
      → ((j : ℕ) (d : V) → get_elem? l j ≡ some d → K d) → (j : ℕ) (d : V) → get_elem? (set l id w) j ≡ some d → K' d
  seats_set K K' l id w mine others all j d e =
      ⊎_elim (λ (t : (j ≡ id) × (w ≡ d)). subst K' t.1 mine) (λ (t : (j ≢ id) × (get_elem? l j ≡ some d)). others j d t.0 t.1 (all j d t.1)) (at_set l id j w d e)

  pub seats_snoc : (K : V → Type 0) (l : List V) (w : V) → K w → ((j : ℕ) (d : V) → get_elem? l j ≡ some d → K d) → (j : ℕ) (d : V) → get_elem? (l ++ w ∷ []) j ≡ some d → K d
  seats_snoc K l w mine all j d e =
      ⊎_elim (λ (t : get_elem? l j ≡ some d). all j d t) (λ (t : w ≡ d). subst K t mine) (at_snoc l w d j e)

module _ {A : Type 0} where
  pub each_map : (P Q : A → Type 0) (l : List A) → ((x : A) → P x → Q x) → Each P l → Each Q l
  each_map P Q [] f e = tt
  each_map P Q (x ∷ xs) f e = (f x e.0, each_map P Q xs f e.1)

  pub each_append : (P : A → Type 0) (l m : List A) → Each P l → Each P m → Each P (l ++ m)
  each_append P [] m e d = d
  each_append P (x ∷ xs) m e d = (e.0, each_append P xs m e.1 d)

  pub each_left : (P : A → Type 0) (l m : List A) → Each P (l ++ m) → Each P l
  each_left P [] m e = tt
  each_left P (x ∷ xs) m e = (e.0, each_left P xs m e.1)

  pub each_right : (P : A → Type 0) (l m : List A) → Each P (l ++ m) → Each P m
  each_right P [] m e = e
  each_right P (x ∷ xs) m e = each_right P xs m e.1

module _ {A : Type 0} where
  pub all_of : (P : A → Type 0) (xs : List A) → Each P xs → All P xs
  all_of P [] e k d lt = absurd (omega arith)
  all_of P (x ∷ xs) e zero d lt = e.0
  all_of P (x ∷ xs) e (suc k) d lt = all_of P xs e.1 k d (omega arith)

  pub each_of : (P : A → Type 0) (xs : List A) → All P xs → Each P xs
  each_of P [] a = tt
  each_of P (x ∷ xs) a = (a 0 x (omega arith), each_of P xs (λ k d lt. a (suc k) d (omega arith)))
