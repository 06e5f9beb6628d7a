-- A list of hosts that ends with the last user who has a place.
use Rattle.requests.proofs.CommonNames.{◌≡◌, ◌<◌, ◌≤◌, ◌+◌, ◌-◌, ℕ, List, [], ◌∷◌, ◌++◌, Option, None, length, get_or, set, suc, sym, ap, ◌∙◌, inl, inr, arith, length-append, append_assoc, length-set, Machine}
use Rattle.std.specs.Prelude.{replicate}
use Rattle.std.proofs.lemmas.List.{get_or_append_left, get_or-append-add, get_or-replicate, get_or_past, set-append_left, length-replicate}
use Rattle.std.proofs.lemmas.Bool.Decides.{leb_tells}
use Rattle.user_hosts.specs.Hosts.{padded}

abbrev Places : Type 0
Places = List (Option Machine)

pub long : (made : Places) → length made ≤ 64 → length (padded made) ≡ 64
long made few = let whole = length-append made (replicate (64 - length made) None) in let rest : length (replicate {A = Option Machine} (64 - length made) None) ≡ 64 - length made = length-replicate (64 - length made) None in omega (arith, whole, rest, few)

-- no host is read where there is no place
none_behind : (n k : ℕ) → get_or (replicate {A = Option Machine} n None) k None ≡ None
none_behind n k = elim (leb_tells n k) [
  | inl h ↦ get_or_past (replicate n None) k None (let all : length (replicate {A = Option Machine} n None) ≡ n = length-replicate n None in let past = h.1 in omega (arith, all, past))
  | inr h ↦ get_or-replicate n k None None h.1
]

pub read : (made : Places) (k : ℕ) → get_or (padded made) k None ≡ get_or made k None
read made k = elim (leb_tells (length made) k) [
  | inr h ↦ get_or_append_left made (replicate (64 - length made) None) None k h.1
  | inl h ↦
      let past = h.1 in
      let at : k ≡ length made + (k - length made) = omega (arith, past) in
      ap (λ n. get_or (padded made) n None) at ∙ get_or-append-add made (replicate (64 - length made) None) (k - length made) None ∙ none_behind (64 - length made) (k - length made)
      ∙ sym (get_or_past made k None (omega (arith, past)))
]

pub written : (made : Places) (k : ℕ) (o : Option Machine) → k < length made → set (padded made) k o ≡ padded (set made k o)
written made k o at = set-append_left made (replicate (64 - length made) None) k o at ∙ ap (λ n. set made k o ++ replicate (64 - n) None) (sym (length-set made k o))

pub pushed : (made : Places) → length made < 64 → padded (made ++ (None ∷ [])) ≡ padded made
pushed made few =
    let n = length made in
    let more : 64 - n ≡ suc (64 - (n + 1)) = omega (arith, few) in
    ap (λ k. (made ++ (None ∷ [])) ++ replicate (64 - k) None) (length-append made (None ∷ [])) ∙ append_assoc made (None ∷ []) (replicate (64 - (n + 1)) None)
    ∙ ap (λ k. made ++ replicate k None) (sym more)
