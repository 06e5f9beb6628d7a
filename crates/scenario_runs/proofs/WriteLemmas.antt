-- One write after another.
use Rattle.scenario_runs.proofs.CommonNames.{◌≡◌, ℕ, ◌-◌, List, [], ◌++◌, length, take, drop, Option, ap, ◌∙◌, arith, Appends, Keeps, take-append-drop, length-drop, take-append_seam, take-length, Result}
use Rattle.scenario_runs.proofs.CommonNames.{WriteAppends, append_assoc}

pub appends_more : (a b c : Option (List ℕ)) (xs ys : List ℕ) → Appends a b xs → Appends b c ys → Appends a c (xs ++ ys)
appends_more a b c xs ys p q = grind (arith, append_assoc {A = ℕ})

pub appends_kept : (a b c : Option (List ℕ)) (xs : List ℕ) → Appends a b xs → Keeps b c → Appends a c xs
appends_kept a b c xs p q = grind arith

-- what has been written is a front of all
abbrev pub Front : Option (List ℕ) → Option (List ℕ) → List ℕ → List ℕ → Type 0
Front old new rest all = (done : List ℕ) × (done ++ rest ≡ all) × Appends old new done

pub front_more : (a b c : Option (List ℕ)) (rest all : List ℕ) (n : ℕ) → Front a b rest all → Appends b c (take n rest) → Front a c (drop n rest) all
front_more a b c rest all n f q =
    (f.0 ++ take n rest, append_assoc f.0 (take n rest) (drop n rest) ∙ ap (λ xs. f.0 ++ xs) (take-append-drop n rest) ∙ f.1, appends_more a b c f.0 (take n rest) f.2 q)

pub front_is : (a b : Option (List ℕ)) (rest all : List ℕ) → Front a b rest all → (n : ℕ) × Appends a b (take n all)
front_is a b rest all f = (length f.0, rw (← f.1, take-append_seam) f.2)

pub front_taken : (a b c : Option (List ℕ)) (rest all : List ℕ) → Front a b rest all → Keeps b c → (n : ℕ) × Appends a c (take n all)
front_taken a b c rest all f q = front_is a c rest all (f.0, f.1, appends_kept a b c f.0 f.2 q)

-- the same, if the rest is a slice `&rest[n..]`
pub front_sliced : (a b c : Option (List ℕ)) (rest all : List ℕ) (n : ℕ) → Front a b rest all → Appends b c (take n rest) → Front a c (take (length rest - n) (drop n rest)) all
front_sliced a b c rest all n f q = rw (← length-drop n rest, take-length) (front_more a b c rest all n f q)

-- the same, if a write took no byte
pub front_ended : (a b c : Option (List ℕ)) (rest all : List ℕ) → Front a b rest all → Appends b c [] → (n : ℕ) × Appends a c (take n all)
front_ended a b c rest all f q = front_is a c rest all (front_more a b c rest all 0 f q)

-- a write after interrupted ones, which moved nothing
pub writes_behind : {E : Type 0} → (a b c : Option (List ℕ)) (r : Result ℕ E) (buf : List ℕ) → Keeps a b → WriteAppends b c r buf → WriteAppends a c r buf
writes_behind a b c r buf kept written = grind arith
