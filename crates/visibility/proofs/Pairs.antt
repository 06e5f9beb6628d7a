-- What debuggers have installed, compared as pairs.
use Rattle.visibility.proofs.CommonNames.{◌≡◌, ℕ, List, [], ◌∷◌, map, Bool, refl, sym, ap, ◌∙◌, IsTrue, ◌↔◌, Rule, Installed, View}
use Rattle.std.specs.Bool.{one_answer, Decides}
use Rattle.std.specs.Cmp.Lexicographic.{pointwise}
use Rattle.visibility.specs.Same.{same_installed, same_view}
use Rattle.visibility.proofs.Equal.{same_handlers, view_decides}
use Rattle.visibility.proofs.Walked.{as_pair, as_installed}

pairs_back : (pairs : List (ℕ × List Rule)) → map as_pair (map as_installed pairs) ≡ pairs
pairs_back [] = refl
pairs_back (p ∷ pairs) = ap (λ rest. p ∷ rest) (pairs_back pairs)

pub pairs_same : (r : Bool) (mine others : List (ℕ × List Rule)) (v w : List Installed) → map as_installed mine ≡ v → map as_installed others ≡ w → (IsTrue r ↔ (mine ≡ others)) → r ≡ pointwise same_installed v w
pairs_same r mine others v w mine_is others_is same = one_answer r (pointwise same_installed v w)
    (λ e. sym mine_is ∙ ap (map as_installed) (same.0 e) ∙ others_is, λ e. same.1 (sym (pairs_back mine) ∙ ap (map as_pair) (mine_is ∙ e ∙ sym others_is) ∙ pairs_back others))
    (same_handlers v w)

pub exact_of : (r : Bool) (v w : View) → r ≡ same_view v w → Decides r (v ≡ w)
exact_of r v w same = rw same (view_decides v w)
