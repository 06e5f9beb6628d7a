-- The lexemes within a string, which the lexer passes over.
use Rattle.json_values.proofs.CommonNames.{nat_tests, ◌≡◌, ℕ, ◌+◌, ◌<◌, ◌≤◌, true, List, ◌∷◌, length, drop, get_or, sym, ap, ◌∙◌, arith, or_parts, not-true, drop_more, drop-drop, prefix_len}
use Rattle.json_values.proofs.CommonNames.{between, in_string, is_plain, lex, refl}
use Rattle.json_values.proofs.Texts.{plain_run, split_at, within_at}
use Rattle.json.specs.Lex.{in_escape}

plain_byte : (x : ℕ) (xs : List ℕ) → is_plain x ≡ true → lex in_string (x ∷ xs) ≡ lex in_string xs
unfolding lex
plain_byte x xs e = grind (arith, nat_tests, or_parts, not-true)

plain_at : (d : List ℕ) (i : ℕ) → i < length d → is_plain (get_or d i 0) ≡ true → lex in_string (drop i d) ≡ lex in_string (drop (i + 1) d)
plain_at d i h e = ap (lex in_string) (drop_more d i 0 h) ∙ plain_byte _ _ e

module _ (d : List ℕ) (i : ℕ) where
  pub four_passed : i + 4 ≤ length d → is_plain (get_or d i 0) ≡ true → is_plain (get_or d (i + 1) 0) ≡ true → is_plain (get_or d (i + 2) 0) ≡ true → is_plain (get_or d (i + 3) 0) ≡ true
      → lex in_string (drop i d) ≡ lex in_string (drop (i + 4) d)
  four_passed h p q r s =
      let next : (j k : ℕ) → k ≡ j + 1 → j < length d → is_plain (get_or d j 0) ≡ true → lex in_string (drop j d) ≡ lex in_string (drop k d) =
      λ j k e l is. plain_at d j l is ∙ ap (λ n. lex in_string (drop n d)) (sym e) in
      next i (i + 1) refl (omega arith) p ∙ next (i + 1) (i + 2) (omega arith) (omega arith) q ∙ next (i + 2) (i + 3) (omega arith) (omega arith) r ∙ next (i + 3) (i + 4) (omega arith) (omega arith) s

  pub escape_begins : i < length d → get_or d i 0 ≡ 92 → lex in_string (drop i d) ≡ lex in_escape (drop (i + 1) d)
  unfolding lex
  escape_begins h e = ap (lex in_string) (drop_more d i 0 h ∙ ap (λ x. x ∷ drop (i + 1) d) e)

  pub escape_passed : i < length d → lex in_escape (drop i d) ≡ lex in_string (drop (i + 1) d)
  unfolding lex
  escape_passed h = ap (lex in_escape) (drop_more d i 0 h)

  pub string_ends : i < length d → get_or d i 0 ≡ 34 → lex in_string (drop i d) ≡ lex between (drop (i + 1) d)
  unfolding lex
  string_ends h e = ap (lex in_string) (drop_more d i 0 h ∙ ap (λ x. x ∷ drop (i + 1) d) e)

  pub run_passed : (stop : ℕ) → stop ≡ i + prefix_len is_plain (drop i d) → lex in_string (drop i d) ≡ lex in_string (drop stop d)
  run_passed stop is = plain_run (drop i d) ∙ ap (lex in_string) (drop-drop _ i d ∙ ap (λ n. drop n d) (sym is))

pub string_begins : (d : List ℕ) (i : ℕ) → get_or d i 32 ≡ 34 → drop 1 (lex between (drop i d)) ≡ lex in_string (drop (i + 1) d)
unfolding lex
string_begins d i e = ap (λ t. drop 1 (lex between t)) (split_at d i (within_at d i (λ w. omega (arith, e, w))) ∙ ap (λ x. x ∷ drop (i + 1) d) e)

-- the second half of a surrogate pair
pub half_passed : (d : List ℕ) (i : ℕ) → i + 6 ≤ length d → get_or d i 0 ≡ 92 → lex in_string (drop (i + 2) d) ≡ lex in_string (drop (i + 2 + 4) d) → lex in_string (drop i d) ≡ lex in_string (drop (i + 6) d)
half_passed d i h e digits =
    let two : i + 1 + 1 ≡ i + 2 = omega arith in
    let six : i + 2 + 4 ≡ i + 6 = omega arith in
    escape_begins d i (omega arith) e ∙ escape_passed d (i + 1) (omega arith) ∙ ap (λ n. lex in_string (drop n d)) two ∙ digits ∙ ap (λ n. lex in_string (drop n d)) six
