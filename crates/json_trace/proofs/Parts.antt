-- Members that may be absent, and what a list of them tells.
use Rattle.std.proofs.Common.{◌≡◌, ℕ, Bool, true, false, cond, List, [], ◌∷◌, refl, sym, ap, arith}
use Rattle.std.{specs.Prelude.{⊤, not, ◌&&◌}, specs.Str.bytes_eq, proofs.lemmas.{Bool.{and_parts, true≢false}, Bool.Decides.nat_tests, Slice.Eq.bytes_eq-Decides}}
use Rattle.reply_json.specs.Objects.{Json, Member}

-- whether a member is there, and its value
abbrev pub Part : Type 0
Part = Bool × Json

-- the members that are there, with these names, before others
abbrev pub flat : List (List ℕ) → List Part → List Member → List Member
flat (name ∷ names) (p ∷ ps) more = cond p.0 ((name, p.1) ∷ flat names ps more) (flat names ps more)
flat names ps more = more

abbrev pub is_new : List ℕ → List (List ℕ) → Bool
is_new name [] = true
is_new name (other ∷ names) = not (bytes_eq name other) && is_new name names

abbrev pub are_distinct : List (List ℕ) → Bool
are_distinct [] = true
are_distinct (name ∷ names) = is_new name names && are_distinct names

same_bytes : (name : List ℕ) → bytes_eq name name ≡ true
same_bytes name = grind (arith, nat_tests, bytes_eq-Decides)

differ : (name other : List ℕ) → not (bytes_eq name other) ≡ true → name ≡ other → ⊥
differ name other new same = let is : bytes_eq name name ≡ true = same_bytes name in true≢false (cc)

abbrev first_name : List Member → List ℕ
first_name [] = []
first_name (m ∷ ms) = m.0

abbrev first_value : Json → List Member → Json
first_value other [] = other
first_value other (m ∷ ms) = m.1

abbrev others : List Member → List Member
others [] = []
others (m ∷ ms) = ms

-- a name that comes later isn't the first one
not_first : (name : List ℕ) (j : Json) (ms : List Member) (names : List (List ℕ)) (ps : List Part) → is_new name names ≡ true → (name, j) ∷ ms ≡ flat names ps [] → ⊥
not_first name j ms [] ps new e = absurd (cc)
not_first name j ms (other ∷ names) [] new e = absurd (cc)
not_first name j ms (other ∷ names) (p ∷ ps) new e = let parts = and_parts _ _ new in go p.0 parts.0 (not_first name j ms names ps parts.1) e
  where
    go : (b : Bool) → not (bytes_eq name other) ≡ true → ((name, j) ∷ ms ≡ flat names ps [] → ⊥) → (name, j) ∷ ms ≡ cond b ((other, p.1) ∷ flat names ps []) (flat names ps []) → ⊥
    go true one rest is = differ name other one (ap first_name is)
    go false one rest is = rest is

-- each member is there in both lists or in none, with the same value
abbrev pub Same : List (List ℕ) → List Part → List Part → Type 0
Same (name ∷ names) (p ∷ ps) (q ∷ qs) = (p.0 ≡ q.0) × (p.0 ≡ true → p.1 ≡ q.1) × Same names ps qs
Same names ps qs = ⊤

pub flat_tells : (names : List (List ℕ)) (ps qs : List Part) → are_distinct names ≡ true → flat names ps [] ≡ flat names qs [] → Same names ps qs
flat_tells [] ps qs new e = tt
flat_tells (name ∷ names) [] qs new e = tt
flat_tells (name ∷ names) (p ∷ ps) [] new e = tt
flat_tells (name ∷ names) (p ∷ ps) (q ∷ qs) new e = let parts = and_parts _ _ new in go p.0 q.0 parts.0 (flat_tells names ps qs parts.1) e
  where
    go : (a b : Bool) → is_new name names ≡ true → (flat names ps [] ≡ flat names qs [] → Same names ps qs)
        → cond a ((name, p.1) ∷ flat names ps []) (flat names ps []) ≡ cond b ((name, q.1) ∷ flat names qs []) (flat names qs [])
        → (a ≡ b) × (a ≡ true → p.1 ≡ q.1) × Same names ps qs
    go true true one rest is = (refl, λ _. ap (first_value p.1) is, rest (ap others is))
    go true false one rest is = absurd (not_first name p.1 (flat names ps []) names qs one is)
    go false true one rest is = absurd (not_first name q.1 (flat names qs []) names ps one (sym is))
    go false false one rest is = (refl, λ no. absurd (true≢false (sym no)), rest is)
