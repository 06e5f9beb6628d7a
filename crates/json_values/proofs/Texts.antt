-- Lexemes, one after another, in a text.
use Rattle.json_values.proofs.CommonNames.{nat_tests, pos, neg_ℤ, negsuc, zero, option_and_then, decimal, ◌^◌, ◌≡◌, ℕ, ◌+◌, ◌-◌, ◌<◌, ◌≤◌, Bool, true, false, ◌&&◌, cond, ◌==◌, nat_eq, List, [], ◌∷◌}
use Rattle.json_values.proofs.CommonNames.{◌++◌, length, take, drop, get_or, Some, None, refl, sym, ap, ap₂, ◌∙◌, arith, suc, add-zero, lt_of_not-le, rules, drop_more, drop_all, drop-drop}
use Rattle.json_values.proofs.CommonNames.{get_or-drop, get_or-take, get_or_past, take-append-drop, true≢false, false≢true, and_parts, or_parts, not-true, eqb-true, ne_eqb, lt-leb, none-some}
use Rattle.json_values.proofs.CommonNames.{prefix_len, prefix_len-append, colon, starts_with, AllDigits, plain, prepend, Token, number, bad, head, ends_word, token, operator, class, between, in_string, is_blank, is_plain}
use Rattle.json_values.proofs.CommonNames.{as_i64, number_of, IsNumberAt, IsWholeAt, LiteralOf, piece, leb, decimal-digits_value, numerals_by_value, tells_digits, IsNumber-decimal}
use Rattle.json_values.proofs.CommonNames.{IsNumber-signed_decimal, content, after_number, word, lex, lex-number, in_word-ended, number_alone, length-drop}
use Rattle.json.specs.{Token.boolean, Token.null, Print.IsNumber}
use Rattle.json_values.proofs.NumberTexts.{integer_of-digits, integer_of-negative}

-- the byte at a place, and those behind it
pub split_at : (d : List ℕ) (i : ℕ) → i < length d → drop i d ≡ get_or d i 32 ∷ drop (i + 1) d
split_at d i h = drop_more d i 32 h

pub head_at : (d : List ℕ) (i : ℕ) → head (drop i d) ≡ get_or d i 32
head_at d i = get_or-drop i d 0 32 ∙ ap (λ j. get_or d j 32) (add-zero i)

-- a place with a byte other than a space is within the text
pub within_at : (d : List ℕ) (i : ℕ) → (get_or d i 32 ≡ 32 → ⊥) → i < length d
within_at d i h = lt_of_not-le (λ past. h (get_or_past d i 32 past))

-- ---- spaces and operators

pub past_space : (d : List ℕ) (i : ℕ) → i < length d → is_blank (class (get_or d i 32)) ≡ true → lex between (drop (i + 1) d) ≡ lex between (drop i d)
unfolding lex
past_space d i h blank = grind (arith, nat_tests, split_at, false≢true)

pub solid_at : (d : List ℕ) (i : ℕ) → is_blank (class (get_or d i 32)) ≡ false → i < length d
solid_at d i solid = within_at d i (λ e. true≢false (sym (ap (λ x. is_blank (class x)) e) ∙ solid))

pub past_operator : (d : List ℕ) (i : ℕ) → class (head (drop i d)) ≡ operator → lex between (drop (i + 1) d) ≡ drop 1 (lex between (drop i d))
unfolding lex
past_operator d i e = grind (arith, nat_tests, head_at d i, split_at d i, solid_at d i)

-- ---- strings

-- the lexer passes over plain bytes within a string
run_byte : (p : Bool) (x n : ℕ) (xs : List ℕ) → p ≡ is_plain x → lex in_string xs ≡ lex in_string (drop n xs) → lex in_string (x ∷ xs) ≡ lex in_string (drop (cond p (1 + n) 0) (x ∷ xs))
unfolding lex
run_byte p x n xs e ih = grind (arith, nat_tests, or_parts, not-true)

pub plain_run : (xs : List ℕ) → lex in_string xs ≡ lex in_string (drop (prefix_len is_plain xs) xs)
plain_run [] = refl
plain_run (x ∷ xs) = run_byte (is_plain x) x (prefix_len is_plain xs) xs refl (plain_run xs)

-- plain bytes mean themselves
plain_content : (x : ℕ) (xs : List ℕ) → is_plain x ≡ true → content plain (x ∷ xs) ≡ prepend (x ∷ []) (content plain xs)
unfolding content
plain_content x xs e = grind (arith, nat_tests, or_parts, not-true)

content_byte : (p : Bool) (x n : ℕ) (xs : List ℕ) → p ≡ is_plain x → content plain xs ≡ prepend (take n xs) (content plain (drop n xs))
    → content plain (x ∷ xs) ≡ prepend (take (cond p (1 + n) 0) (x ∷ xs)) (content plain (drop (cond p (1 + n) 0) (x ∷ xs)))
content_byte p x n xs e ih = grind (arith, nat_tests, plain_content)

pub content_run : (xs : List ℕ) → content plain xs ≡ prepend (take (prefix_len is_plain xs) xs) (content plain (drop (prefix_len is_plain xs) xs))
content_run [] = grind (arith, nat_tests)
content_run (x ∷ xs) = content_byte (is_plain x) x (prefix_len is_plain xs) xs refl (content_run xs)

nothing : content plain [] ≡ None
unfolding content
nothing = refl

-- a byte that is not plain, no quote and no backslash is a control byte
control : (x : ℕ) (xs : List ℕ) → is_plain x ≡ false → (x == 34) ≡ false → (x == 92) ≡ false → content plain (x ∷ xs) ≡ None
unfolding content
control x xs e q b = grind (arith, nat_tests, true≢false)

pub stops : (xs : List ℕ) → prefix_len is_plain xs < length xs → is_plain (get_or xs (prefix_len is_plain xs) 32) ≡ false
stops [] h = absurd (omega arith)
stops (x ∷ xs) h = grind (arith, nat_tests, stops xs)

module _ (d : List ℕ) (i stop : ℕ) (first : get_or d i 32 ≡ 34) (is : stop ≡ i + 1 + prefix_len is_plain (drop (i + 1) d)) where
  pub past_string : get_or d stop 32 ≡ 34 → lex between (drop (stop + 1) d) ≡ drop 1 (lex between (drop i d))
  unfolding lex
  past_string last = grind (arith, nat_tests, within_at, drop-drop, split_at, plain_run)

  up_to_stop : content plain (drop 1 (drop i d)) ≡ prepend (piece d (i + 1) stop) (content plain (drop stop d))
  up_to_stop = grind (arith, nat_tests, split_at, within_at, content_run, drop-drop)

  pub string_content : get_or d stop 32 ≡ 34 → content plain (drop 1 (drop i d)) ≡ Some (piece d (i + 1) stop)
  unfolding content
  string_content last = search (rules, within_at, up_to_stop, split_at)

  pub no_content : (get_or d stop 32 ≡ 34 → ⊥) → (get_or d stop 32 ≡ 92 → ⊥) → content plain (drop 1 (drop i d)) ≡ None
  no_content no_quote no_escape = grind (arith, nat_tests, up_to_stop, drop_all, nothing, get_or-drop, stops, length-drop, split_at, control, ne_eqb)

-- ---- literals and numbers

pub literal_true : LiteralOf (116 ∷ 114 ∷ 117 ∷ 101 ∷ []) (boolean true)
unfolding lex word
literal_true r ended = ap₂ (λ b l. token (cond b (boolean true) bad) ∷ l) ended (in_word-ended r ended)

pub literal_false : LiteralOf (102 ∷ 97 ∷ 108 ∷ 115 ∷ 101 ∷ []) (boolean false)
unfolding lex word
literal_false r ended = ap₂ (λ b l. token (cond b (boolean false) bad) ∷ l) ended (in_word-ended r ended)

pub literal_null : LiteralOf (110 ∷ 117 ∷ 108 ∷ 108 ∷ []) null
unfolding lex word
literal_null r ended = ap₂ (λ b l. token (cond b null bad) ∷ l) ended (in_word-ended r ended)

starts : (w t : List ℕ) → starts_with nat_eq t w ≡ true → w ++ drop (length w) t ≡ t
starts [] t h = grind (arith, nat_tests)
starts (x ∷ w) [] h = grind (arith, nat_tests, false≢true)
starts (x ∷ w) (y ∷ t) h = grind (arith, nat_tests, starts w t, and_parts, eqb-true)

-- behind the name of a literal, before a delimiter
pub past_literal : (d name : List ℕ) (i : ℕ) (t : Token) → LiteralOf name t → (starts_with nat_eq (drop i d) name && ends_word (drop (length name) (drop i d))) ≡ true
    → lex between (drop (i + length name) d) ≡ drop 1 (lex between (drop i d))
past_literal d name i t literal is = grind (arith, nat_tests, and_parts, drop-drop, starts)

-- what a piece and the text behind it are together
pub piece_and_rest : (d : List ℕ) (from end : ℕ) → from ≤ end → piece d from end ++ drop end d ≡ drop from d
piece_and_rest d from end h = grind (arith, nat_tests, drop-drop (end - from) from d, take-append-drop (end - from) (drop from d))

-- ---- a key in its usual form: its name in quotes, and a colon

module _ (d name : List ℕ) (i : ℕ) (first : get_or d i 32 ≡ 34) (named : piece d (i + 1) (i + 1 + length name) ≡ name) (is_plain_name : prefix_len is_plain name ≡ length name) where
  goes_on : name ++ drop (i + 1 + length name) d ≡ drop (i + 1) d
  goes_on = ap (λ t. t ++ drop (i + 1 + length name) d) (sym named) ∙ piece_and_rest d (i + 1) (i + 1 + length name) (omega arith)

  module _ (last : get_or d (i + 1 + length name) 32 ≡ 34) where
    quoted : drop (i + 1 + length name) d ≡ 34 ∷ drop (i + 1 + length name + 1) d
    quoted = split_at d (i + 1 + length name) (within_at d _ (λ w. omega (arith, last, w))) ∙ ap (λ x. x ∷ drop (i + 1 + length name + 1) d) last

    run : prefix_len is_plain (drop (i + 1) d) ≡ length name
    run = ap (prefix_len is_plain) (sym goes_on ∙ ap (λ t. name ++ t) quoted) ∙ prefix_len-append is_plain name (34 ∷ drop (i + 1 + length name + 1) d) ∙ grind (arith, nat_tests, is_plain_name)

    stop_is : i + 1 + length name ≡ i + 1 + prefix_len is_plain (drop (i + 1) d)
    stop_is = omega (arith, run)

    pub key_content : content plain (drop 1 (drop i d)) ≡ Some name
    key_content = string_content d i (i + 1 + length name) first stop_is last ∙ ap Some named

    pub key_passed : get_or d (i + 1 + length name + 1) 32 ≡ 58 → drop 1 (lex between (drop i d)) ≡ colon ∷ lex between (drop (i + 1 + length name + 2) d)
    unfolding lex
    key_passed next = sym (past_string d i (i + 1 + length name) first stop_is last) ∙ ap (lex between) (split_at d (i + 1 + length name + 1) (within_at d _ (λ w. omega (arith, next, w))) ∙ ap (λ x. x ∷ drop (i + 1 + length name + 1 + 1) d) next) ∙ ap (λ j. colon ∷ lex between (drop j d)) (omega arith)

pub past_number : (d : List ℕ) (from end : ℕ) → IsNumberAt d from end → lex between (drop from d) ≡ token (number (piece d from end)) ∷ lex between (drop end d)
past_number d from end n = ap (lex between) (sym (piece_and_rest d from end n.later)) ∙ lex-number (piece d from end) (drop end d) n.number n.ended

pub first_of_number : (t r : List ℕ) → after_number t ≡ Some r → head t < 128
unfolding after_number
first_of_number t r found = grind (arith, nat_tests, none-some, ne_eqb, lt-leb, leb)

-- what comes before a delimiter and reads as a number is a number by itself
pub number_at : (d : List ℕ) (from end : ℕ) → from ≤ end → end ≤ length d → after_number (drop from d) ≡ Some (drop end d) → ends_word (drop end d) ≡ true → IsNumberAt d from end
number_at d from end later within found ended = search (rules, number_alone, piece_and_rest)

-- ---- whole numbers of few digits

module _ (d : List ℕ) (from end value : ℕ) (n : IsWholeAt d from end value) where
  some_digits : 0 < length (piece d from end)
  some_digits = grind (arith, nat_tests, length-drop)

  one_zero : get_or (piece d from end) 0 0 ≡ 48 → length (piece d from end) ≡ 1
  one_zero e = grind (arith, nat_tests, get_or-take, get_or-drop, length-drop)

  pub canonical : decimal value ≡ piece d from end
  canonical =
      ap decimal (sym n.written.writes)
      ∙ decimal-digits_value (numerals_by_value (AllDigits 10) tells_digits) (piece d from end) n.written.digits some_digits one_zero (omega (arith, n.written.writes, n.written.small))

  pub whole_number : IsNumberAt d from end
  whole_number = grind (arith, nat_tests, canonical, IsNumber-decimal)

  pub whole_value : option_and_then as_i64 (number_of (piece d from end)) ≡ Some (pos value)
  whole_value = integer_of-digits (piece d from end) value n.written.digits some_digits n.written.writes n.written.small

negative_decimal : (value : ℕ) → 0 < value → value < 10 ^ 18 → IsNumber (45 ∷ decimal value)
negative_decimal zero some small = absurd (omega arith)
negative_decimal (suc n) some small = IsNumber-signed_decimal (negsuc n) (omega (arith, small))

-- with a minus before it
module _ (d : List ℕ) (from end value : ℕ) (minus : get_or d from 32 ≡ 45) (n : IsWholeAt d (from + 1) end value) (some : 0 < value) where
  signed : piece d from end ≡ 45 ∷ piece d (from + 1) end
  signed = grind (arith, nat_tests, split_at, within_at)

  pub negative_number : IsNumberAt d from end
  negative_number = grind (arith, nat_tests, canonical d (from + 1) end value n, negative_decimal value some n.written.small, signed)

  pub negative_value : option_and_then as_i64 (number_of (piece d from end)) ≡ Some (neg_ℤ (pos value))
  negative_value = grind (arith, nat_tests, integer_of-negative, signed, some_digits)

-- what is read at a place, and what comes after it
pub ruleset strings_read = (nat_tests, head_at, no_content, string_content, past_string)

pub ruleset numbers_read = (nat_tests, past_number, number_at)
