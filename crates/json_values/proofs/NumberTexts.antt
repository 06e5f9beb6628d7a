-- A number by its text, with or without a minus.
use Rattle.json_values.proofs.CommonNames.{nat_tests, pos, neg_ℤ, ◌≡◌, ℕ, ℤ, ◌^◌, ◌<◌, ◌==◌, List, [], length, drop, get_or, true, false, Option, Some, is_some, option_and_then, refl, sym, ap, ◌∙◌}
use Rattle.json_values.proofs.CommonNames.{arith, append-nil, rules, AllDigits, digits_value, Num, as_i64, Parts, IsWellFormed, scan, number_from, scan-text_of, number_of}
use Rattle.std.proofs.{Math.Nat.pow-le-pow_right, lemmas.Int.Digits.digits_value-lt, lemmas.List.length-take-le}
use Rattle.json_values.proofs.CommonNames.{◌≤◌, take}

-- at most 17 digits write a number below 10^17
pub few_below : (bs : List ℕ) (n : ℕ) → n ≤ length bs → n ≤ 17 → AllDigits 10 (take n bs) → digits_value 10 (take n bs) < 10 ^ 17
few_below bs n within few all =
    let below : digits_value 10 (take n bs) < 10 ^ length (take n bs) = digits_value-lt 10 (take n bs) all in
    let most : 10 ^ n ≤ 10 ^ 17 = pow-le-pow_right (omega arith) few in
    omega (arith, ap (λ k. 10 ^ k) (length-take-le n bs within), below, most)

pub with_minus : (s : List ℕ) → true ≡ (get_or s 0 0 == 45) → number_from true (scan (drop 1 s)) ≡ number_of s
unfolding number_of
with_minus s e = rw (sym e) refl

pub without_minus : (s : List ℕ) → false ≡ (get_or s 0 0 == 45) → number_from false (scan s) ≡ number_of s
unfolding number_of
without_minus s e = rw (sym e) refl

-- ---- only digits

abbrev digits : List ℕ → Parts
digits s = record { whole = s; point = false; fraction = []; exponent_negative = false; exponent = []; len = length s }

formed : (s : List ℕ) → AllDigits 10 s → IsWellFormed (digits s)
formed s h = record { whole_digits = h; fraction_digits = tt; exponent_digits = tt; no_point = λ e. refl; no_exponent = λ e. refl; len_is = ap length (sym (append-nil s)) }

scan-digits : (s : List ℕ) → AllDigits 10 s → scan s ≡ digits s
scan-digits s h = ap scan (sym (append-nil s)) ∙ scan-text_of (digits s) (formed s h)

-- what these texts are as integers, if the number is small
pub integer_of-digits : (s : List ℕ) (n : ℕ) → AllDigits 10 s → 0 < length s → digits_value 10 s ≡ n → n < 10 ^ 18 → option_and_then as_i64 (number_of s) ≡ Some (pos n)
unfolding number_of
integer_of-digits s n h some is small = search (rules, scan-digits)

pub integer_of-negative : (s t : List ℕ) (n : ℕ) → get_or s 0 0 ≡ 45 → t ≡ drop 1 s → AllDigits 10 t → 0 < length t → digits_value 10 t ≡ n → 0 < n → n < 10 ^ 18
    → option_and_then as_i64 (number_of s) ≡ Some (neg_ℤ (pos n))
unfolding number_of
integer_of-negative s t n first tail h some is above small = search (rules, scan-digits)

-- a whole number is a number
pub integer_is_number : (o : Option Num) (z : ℤ) → option_and_then as_i64 o ≡ Some z → is_some o ≡ true
integer_is_number o z e = grind (arith, nat_tests)
