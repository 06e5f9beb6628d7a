-- The lists of installed policies. None is kept before the first policy.
use Rattle.requests.proofs.CommonNames.{◌≡◌, ◌<◌, ◌≤◌, ℕ, Bool, List, [], ◌∷◌, filter, get_or, set, length, users, refl, sym, ap, ◌∙◌, set-get_or, length-set}
use Rattle.std.proofs.Common.{arith}
use Rattle.std.proofs.Math.ListN.{get_or-map}
use Rattle.std.proofs.lemmas.List.{get_or_past}
use Rattle.requests.specs.Machine.{Installed, lists_of}

-- a user's policies are those of the kept list, if there is one
pub listed : (ls : List (List Installed)) (k : ℕ) → get_or (lists_of ls) k [] ≡ get_or ls k []
listed [] k = get_or-map (λ u. []) users k 0
listed (l ∷ ls) k = refl

-- kept lists are the policies of all users
pub there : (ls : List (List Installed)) → 0 < length ls → lists_of ls ≡ ls
there [] some = absurd (omega arith)
there (l ∷ ls) some = refl

-- a user's list is replaced
pub put : (ls : List (List Installed)) (k : ℕ) (l : List Installed) → k < length ls → lists_of (set ls k l) ≡ set (lists_of ls) k l
put ls k l within = there (set ls k l) (omega (arith, within, length-set ls k l)) ∙ ap (λ kept. set kept k l) (sym (there ls (omega (arith, within))))

-- a user without a list loses no policy
pub none_dropped : (ls : List (List Installed)) (k : ℕ) (p : Installed → Bool) → length ls ≤ k
    → set (lists_of ls) k (filter p (get_or (lists_of ls) k [])) ≡ lists_of ls
none_dropped ls k p past =
    let none = listed ls k ∙ get_or_past ls k [] past in
    ap (set (lists_of ls) k) (ap (filter p) none ∙ sym none) ∙ set-get_or (lists_of ls) k []
