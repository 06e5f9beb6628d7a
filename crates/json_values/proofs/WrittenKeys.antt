-- A key in quotes with its colon, found whole at a place of a text.
use Rattle.json_values.proofs.CommonNames.{◌≡◌, ℕ, ◌+◌, ◌<◌, List, [], ◌∷◌, ◌++◌, length, take, drop, get_or, sym, ap, ◌∙◌, arith, get_or-drop, get_or-take, take-take, drop-drop, piece}
use Rattle.std.proofs.Math.Seq.{take-append_seam}
use Rattle.std.proofs.lemmas.List.{drop-take, get_or-append-add}

module _ (d name : List ℕ) (at : ℕ) (written : take (length name + 3) (drop at d) ≡ 34 ∷ name ++ (34 ∷ 58 ∷ [])) where
  byte : (i : ℕ) → i < length name + 3 → get_or d (at + i) 32 ≡ get_or (34 ∷ name ++ (34 ∷ 58 ∷ [])) i 32
  byte i within = sym (get_or-drop at d i 32) ∙ sym (get_or-take (length name + 3) (drop at d) i 32 within) ∙ ap (λ t. get_or t i 32) written

  behind : (i : ℕ) → i < 2 → get_or d (at + 1 + length name + i) 32 ≡ get_or (34 ∷ 58 ∷ []) i 32
  behind i within = ap (λ j. get_or d j 32) (omega arith) ∙ byte (length (34 ∷ name) + i) (omega (arith, within)) ∙ get_or-append-add (34 ∷ name) (34 ∷ 58 ∷ []) i 32

  pub opens : get_or d at 32 ≡ 34
  opens = ap (λ j. get_or d j 32) (omega arith) ∙ byte 0 (omega arith)

  pub closes : get_or d (at + 1 + length name) 32 ≡ 34
  closes = ap (λ j. get_or d j 32) (omega arith) ∙ behind 0 (omega arith)

  pub coloned : get_or d (at + 1 + length name + 1) 32 ≡ 58
  coloned = behind 1 (omega arith)

  pub named : piece d (at + 1) (at + 1 + length name) ≡ name
  named =
      let rest : take (length name + 2) (drop (at + 1) d) ≡ name ++ (34 ∷ 58 ∷ []) =
      ap (take (length name + 2)) (sym (drop-drop 1 at d)) ∙ sym (drop-take 1 (length name + 2) (drop at d)) ∙ ap (λ k. drop 1 (take k (drop at d))) (omega arith) ∙ ap (drop 1) written in
      ap (λ k. take k (drop (at + 1) d)) (omega arith) ∙ sym (take-take (length name) (length name + 2) (drop (at + 1) d) (omega arith)) ∙ ap (take (length name)) rest ∙ take-append_seam name (34 ∷ 58 ∷ [])
