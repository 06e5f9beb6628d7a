-- The first token, by the first byte of the text.
use Rattle.json_values.proofs.CommonNames.{nat_tests, ◌≡◌, ◌≢◌, ℕ, Bool, true, false, cond, List, [], ◌∷◌, drop, Option, Some, None, refl, sym, ap, ◌∙◌, subst, arith, true≢false, false≢true, eqb-true}
use Rattle.json_values.proofs.CommonNames.{is_some, Token, begin_object, end_object, begin_array, end_array, key, number, bad, content, plain, head, Lexeme, token, comma, colon, Class, quote}
use Rattle.json_values.proofs.CommonNames.{backslash, operator, space, other, class, operator_lexeme, string_token, between, fresh, after_value, after_comma, begins_colon, if_allowed, place_token}
use Rattle.json_values.proofs.CommonNames.{is_blank, is_good, after_end_array, token_of, Yields, Ends, may_begin, may_close, refused_at, tokens_at, NotBeforeComma, ◌⊎◌, inl, inr, ⊤, MatchOption, word}
use Rattle.json_values.proofs.CommonNames.{lex, punctuate, Place, Fresh, AfterValue, AfterComma, Failed}
use Rattle.json.specs.Token.{string, boolean, null}
use Rattle.json.specs.Lex as lexer
use Rattle.json.specs.declared.token.Token as read

abbrev pub behind : List ℕ → List Lexeme
behind t = drop 1 (lex between t)

-- the lexeme that a text begins with, by the class of its first byte
abbrev lexeme : Class → List ℕ → Lexeme
lexeme quote t = token (string_token (content plain (drop 1 t)))
lexeme backslash t = token bad
lexeme operator t = operator_lexeme (head t)
lexeme space t = token bad
lexeme other t = token (word t)

first : (c : Class) (t : List ℕ) → class (head t) ≡ c → is_blank c ≡ false → lex between t ≡ lexeme c t ∷ behind t
unfolding lex
first c [] e h = absurd (true≢false (ap is_blank e ∙ h))
first c (x ∷ xs) e h = grind (arith, nat_tests, true≢false)

pub nothing_left : lex between [] ≡ []
unfolding lex
nothing_left = refl

pub at_operator : (c : ℕ) (t : List ℕ) → class c ≡ operator → head t ≡ c → lex between t ≡ operator_lexeme c ∷ behind t
at_operator c t k e = first operator t (ap class e ∙ k) refl ∙ ap (λ x. operator_lexeme x ∷ behind t) e

pub at_string : (t : List ℕ) (o : Option (List ℕ)) → head t ≡ 34 → content plain (drop 1 t) ≡ o → lex between t ≡ token (string_token o) ∷ behind t
at_string t o e found = first quote t (ap class e) refl ∙ ap (λ r. token (string_token r) ∷ behind t) found

pub at_word : (t : List ℕ) → class (head t) ≡ other → lex between t ≡ token (word t) ∷ behind t
at_word t e = first other t e refl

-- ---- a word is a number, a literal or bad

abbrev pub IsWord : Token → Type 0
IsWord begin_object = ⊥
IsWord end_object = ⊥
IsWord begin_array = ⊥
IsWord end_array = ⊥
IsWord (key s) = ⊥
IsWord (string s) = ⊥
IsWord (number s) = ⊤
IsWord (boolean v) = ⊤
IsWord null = ⊤
IsWord bad = ⊤

one_of : (b : Bool) (x y : Token) → IsWord x → IsWord y → IsWord (cond b x y)
one_of b x y p q = grind (arith, nat_tests)

pub word_is : (t : List ℕ) → IsWord (word t)
unfolding word
word_is t = grind (arith, nat_tests, one_of)

-- ---- where a value may begin

module _ (t : List ℕ) where
  pub opens_object : (p : Place) → may_begin p ≡ true → head t ≡ 123 → tokens_at p t ≡ begin_object ∷ punctuate fresh (behind t)
  unfolding punctuate
  opens_object p h e = grind (arith, nat_tests, at_operator, false≢true)

  pub opens_array : (p : Place) → may_begin p ≡ true → head t ≡ 91 → tokens_at p t ≡ begin_array ∷ punctuate fresh (behind t)
  unfolding punctuate
  opens_array p h e = grind (arith, nat_tests, at_operator, false≢true)

  pub closes_object : (p : Place) → may_close p ≡ true → head t ≡ 125 → tokens_at p t ≡ end_object ∷ punctuate after_value (behind t)
  unfolding punctuate
  closes_object p h e = grind (arith, nat_tests, at_operator, false≢true)

  pub closes_array : (p : Place) → may_close p ≡ true → head t ≡ 93 → tokens_at p t ≡ end_array ∷ punctuate after_value (behind t)
  unfolding punctuate
  closes_array p h e = grind (arith, nat_tests, at_operator, false≢true)

  -- a bracket that may not close
  pub not_closed : (p : Place) → may_close p ≡ false → (head t ≡ 125) ⊎ (head t ≡ 93) → tokens_at p t ≡ refused_at p
  unfolding punctuate
  not_closed p h x2 = grind (arith, nat_tests, true≢false, at_operator)

  pub ended : (p : Place) → t ≡ [] → tokens_at p t ≡ cond (may_close p) [] (refused_at p)
  unfolding punctuate
  ended p e = grind (arith, nat_tests, nothing_left)

  -- a comma, a colon or a backslash where a value may begin
  stray_lexeme : (p : Place) (l : Lexeme) → may_begin p ≡ true → lex between t ≡ l ∷ behind t → (punctuate fresh (l ∷ behind t) ≡ bad ∷ []) → (punctuate after_comma (l ∷ behind t) ≡ bad ∷ []) → tokens_at p t ≡ bad ∷ []
  stray_lexeme p l h e f g = grind (arith, nat_tests, false≢true)

  pub stray : (p : Place) → may_begin p ≡ true → (head t ≡ 44) ⊎ ((head t ≡ 58) ⊎ (head t ≡ 92)) → tokens_at p t ≡ bad ∷ []
  unfolding punctuate
  stray p h (inl e) = stray_lexeme p comma h (at_operator 44 t refl e) refl refl
  stray p h (inr (inl e)) = stray_lexeme p colon h (at_operator 58 t refl e) refl refl
  stray p h (inr (inr e)) = stray_lexeme p (token bad) h (first backslash t (ap class e) refl) refl refl

  -- ---- strings

  pub no_string : (p : Place) → may_begin p ≡ true → head t ≡ 34 → content plain (drop 1 t) ≡ None → tokens_at p t ≡ bad ∷ []
  unfolding punctuate
  no_string = grind (arith, nat_tests, stray_lexeme, at_string)

  pub a_key : (p : Place) (s : List ℕ) (ls : List Lexeme) → may_begin p ≡ true → head t ≡ 34 → content plain (drop 1 t) ≡ Some s → behind t ≡ colon ∷ ls → tokens_at p t ≡ key s ∷ punctuate fresh ls
  unfolding punctuate
  a_key p s ls h e found next = grind (arith, nat_tests, at_string, false≢true)

  pub a_string : (p : Place) (s : List ℕ) → may_begin p ≡ true → head t ≡ 34 → content plain (drop 1 t) ≡ Some s → begins_colon (behind t) ≡ false → tokens_at p t ≡ string s ∷ punctuate after_value (behind t)
  unfolding punctuate
  a_string p s h e found none = grind (arith, nat_tests, at_string, false≢true)

-- ---- words

pub a_word : (t : List ℕ) (p : Place) (w : Token) → may_begin p ≡ true → lex between t ≡ token w ∷ behind t → IsWord w → is_good w ≡ true → tokens_at p t ≡ w ∷ punctuate after_value (behind t)
unfolding punctuate
a_word t p w h e i g = grind (arith, nat_tests, false≢true)

pub a_number : (t s : List ℕ) (ls : List Lexeme) (p : Place) → may_begin p ≡ true → lex between t ≡ token (number s) ∷ ls → tokens_at p t ≡ number s ∷ punctuate after_value ls
unfolding punctuate
a_number t s ls p h e = grind (arith, nat_tests, false≢true)

pub bad_word : (t : List ℕ) (p : Place) → may_begin p ≡ true → lex between t ≡ token bad ∷ behind t → tokens_at p t ≡ bad ∷ []
unfolding punctuate
bad_word t p h e = stray_lexeme t p (token bad) h e refl refl

-- ---- the cases of the first lexeme

module _ (t : List ℕ) (P : List Lexeme → Type 0) (end : is_blank (class (head t)) ≡ true → P (lex between t)) (text : (o : Option (List ℕ)) → P (token (string_token o) ∷ behind t))
    (words : (w : Token) → IsWord w → P (token w ∷ behind t)) (opening : (w : Token) → (w ≡ begin_object) ⊎ (w ≡ begin_array) → P (token w ∷ behind t)) (object : head t ≡ 125 → P (token end_object ∷ behind t))
    (array : head t ≡ 93 → P (token end_array ∷ behind t)) (at_colon : head t ≡ 58 → P (colon ∷ behind t)) (at_comma : head t ≡ 44 → P (comma ∷ behind t)) where
  by_class : (c : Class) → class (head t) ≡ c → P (lex between t)
  by_class quote e = grind (arith, nat_tests, first quote t e refl)
  by_class backslash e = grind (arith, nat_tests, first backslash t e refl)
  by_class operator e = grind (arith, nat_tests, first operator t e refl, false≢true, eqb-true)
  by_class space e = grind (arith, nat_tests)
  by_class other e = grind (arith, nat_tests, at_word t e, word_is t)

  by_first : P (lex between t)
  by_first = by_class (class (head t)) refl

-- no colon follows
pub no_colon : (t : List ℕ) → Ends t → head t ≢ 58 → begins_colon (lex between t) ≡ false
no_colon t ends none =
    by_first t (λ ls. begins_colon ls ≡ false) (λ b. ap begins_colon (ap (lex between) (ends b) ∙ nothing_left)) (λ o. refl) (λ w i. refl) (λ w i. refl) (λ h. refl) (λ h. refl) (λ h. absurd (none h)) (λ h. refl)

-- ---- where no value may begin

refused_text : (o : Option (List ℕ)) (b : Bool) (k : lexer.Place → List Token) → place_token after_value (string_token o) b k ≡ bad ∷ []
refused_text o b k = grind (arith, nat_tests)

refused_word : (w : Token) (b : Bool) (k : lexer.Place → List Token) → IsWord w → place_token after_value w b k ≡ bad ∷ []
refused_word w b k h = grind (arith, nat_tests)

refused_opening : (w : Token) (b : Bool) (k : lexer.Place → List Token) → (w ≡ begin_object) ⊎ (w ≡ begin_array) → place_token after_value w b k ≡ bad ∷ []
refused_opening w b k x3 = grind (arith, nat_tests)

pub not_begun : (t : List ℕ) (p : Place) → may_begin p ≡ false → NotBeforeComma p t → is_blank (class (head t)) ≡ false → head t ≢ 125 → head t ≢ 93 → tokens_at p t ≡ refused_at p
unfolding punctuate
not_begun t Fresh h passed solid a b = absurd (true≢false h)
not_begun t AfterValue h passed solid a b =
    by_first t (λ ls. punctuate after_value ls ≡ bad ∷ []) (λ blank. absurd (true≢false (sym blank ∙ solid))) (λ o. refused_text o _ _) (λ w i. refused_word w _ _ i) (λ w i. refused_opening w _ _ i) (λ e. absurd (a e))
    (λ e. absurd (b e)) (λ e. refl) (λ e. absurd (passed e))
not_begun t AfterComma h passed solid a b = absurd (true≢false h)
not_begun t Failed h passed solid a b = refl

-- ---- where no array closes

other_token : (b : Bool) (w : Token) (k : lexer.Place → List Token) (p : lexer.Place) → after_end_array (w ∷ k p) ≡ None → after_end_array (if_allowed b w k p) ≡ None
other_token b w k p e = grind (arith, nat_tests)

no_end_text : (p : lexer.Place) (o : Option (List ℕ)) (b : Bool) (k : lexer.Place → List Token) → after_end_array (place_token p (string_token o) b k) ≡ None
no_end_text p o b k = grind (arith, nat_tests, other_token)

no_end_word : (p : lexer.Place) (w : Token) (b : Bool) (k : lexer.Place → List Token) → IsWord w → after_end_array (place_token p w b k) ≡ None
no_end_word p w b k h = grind (arith, nat_tests, other_token)

no_end_opening : (p : lexer.Place) (w : Token) (b : Bool) (k : lexer.Place → List Token) → (w ≡ begin_object) ⊎ (w ≡ begin_array) → after_end_array (place_token p w b k) ≡ None
no_end_opening p w b k x4 = grind (arith, nat_tests, other_token)

no_end : (p : lexer.Place) (t : List ℕ) → Ends t → head t ≢ 93 → after_end_array (punctuate p []) ≡ None → (head t ≡ 44 → after_end_array (punctuate p (comma ∷ behind t)) ≡ None)
    → after_end_array (punctuate p (colon ∷ behind t)) ≡ None → after_end_array (punctuate p (lex between t)) ≡ None
unfolding punctuate
no_end p t ends other_byte none at_comma at_colon =
    let k = λ (q : lexer.Place). punctuate q (behind t) in
    by_first t (λ ls. after_end_array (punctuate p ls) ≡ None) (λ b. ap (λ ls. after_end_array (punctuate p ls)) (ap (lex between) (ends b) ∙ nothing_left) ∙ none) (λ o. no_end_text p o _ k)
    (λ w i. no_end_word p w _ k i) (λ w i. no_end_opening p w _ k i) (λ e. other_token (lexer.may_close p) end_object k after_value refl) (λ e. absurd (other_byte e)) (λ e. at_colon) at_comma

pub no_end_array : (p : Place) (t : List ℕ) → Ends t → NotBeforeComma p t → head t ≢ 93 → after_end_array (tokens_at p t) ≡ None
unfolding punctuate
no_end_array p t ends passed h = grind (arith, nat_tests, no_end)

pub refused_no_end : (p : Place) → after_end_array (refused_at p) ≡ None
refused_no_end p = grind (arith, nat_tests)

-- ---- what the reader's functions ask

-- a token that isn't bad is good
pub good : (t : read.Token) → (t ≡ read.TheVariants.Bad → ⊥) → is_good (token_of t) ≡ true
good t h = grind (arith, nat_tests)

-- if all is refused, no token is left
pub refused : (p next : Place) (t : List ℕ) (r : Option read.Token) → tokens_at p t ≡ refused_at p → Yields (refused_at p) r [] × (next ≡ Failed) → Yields (tokens_at p t) r (tokens_at next t)
refused p next t r none h = subst (λ q. Yields (tokens_at p t) r (tokens_at q t)) (sym h.1) (subst (λ ts. Yields ts r []) (sym none) h.0)

pub on_some : {T : Type 0} (A B : Type 0) (P Q : T → Type 0) (r : Option T) → is_some r ≡ true → MatchOption r A P → ((x : T) → P x → Q x) → MatchOption r B Q
on_some A B P Q r some h f = grind (arith, nat_tests, false≢true)

-- the first token, by the byte that the text begins with
pub ruleset at_bytes = (nat_tests, at_operator, a_key, no_string, bad_word, at_word)
