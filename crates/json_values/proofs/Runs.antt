-- The plain text of a string, seen 16 bytes at a time through the mask of the bytes that end it.
use Rattle.json_values.proofs.CommonNames.{differ, first_set_mask_l, length-zip, not, suc, take, zero, zip, nat_tests, ◌≡◌, ℕ, ◌+◌, ◌%◌, ◌^◌, ◌<◌, ◌≤◌, cond, eqb, ltb, List, [], ◌∷◌, map, length, drop, refl, ap, ◌∙◌, arith, rules, chunk-drop, leading_from_mask_l}
use Rattle.json_values.proofs.CommonNames.{length-chunk, mask_l-mod, trailing_mask_l, length-map, prefix_len-le-length, eq-eqb, ne_eqb, prefix_len, is_plain, is_stop, count_trailing_zeros}
use Rattle.json_values.proofs.CommonNames.{prefix_len-append, bit_or, chunk, mask_l, top, zip2}

-- ---- the mask of the bytes that end plain text

abbrev pub hit : ℕ → ℕ → ℕ
hit a b = cond (eqb a b) 255 0

abbrev pub below : ℕ → ℕ → ℕ
below a b = cond (ltb a b) 255 0

abbrev marked : ℕ → ℕ
marked x = bit_or (bit_or (hit x 34) (hit x 92)) (below x 32)

tops : (v : List ℕ) → map (top 7) (map marked v) ≡ map is_stop v
tops [] = refl
tops (x ∷ xs) = grind (arith, nat_tests, tops xs)

joined : (f g : ℕ → ℕ) (xs : List ℕ) → zip2 bit_or (map f xs) (map g xs) ≡ map (λ x. bit_or (f x) (g x)) xs
joined f g [] = refl
joined f g (x ∷ xs) = ap (λ r. bit_or (f x) (g x) ∷ r) (joined f g xs)

pub stop_mask : (v a b c : List ℕ) → length v ≡ 16 → a ≡ map (λ x. hit x 34) v → b ≡ map (λ x. hit x 92) v → c ≡ map (λ x. below x 32) v
    → mask_l (map (top 7) (zip2 bit_or (zip2 bit_or a b) c)) % 2 ^ 64 ≡ mask_l (map is_stop v)
stop_mask v a b c long p q r = grind (arith, nat_tests, zip2 bit_or, top 7, tops v, mask_l-mod (map is_stop v) 64, length-map v is_stop, bit_or, joined, mask_l)

-- ---- the mask of the bytes that differ from others

abbrev pub other : ℕ → ℕ → ℕ
other a b = cond (not (eqb a b)) 255 0

tops_zip : (v w : List ℕ) → map (top 7) (zip2 other v w) ≡ map differ (zip v w)
tops_zip [] w = refl
tops_zip (x ∷ xs) [] = refl
tops_zip (x ∷ xs) (y ∷ ys) = grind (arith, nat_tests, tops_zip xs ys)

pub difference_mask : (v w : List ℕ) → length v ≡ 16 → length w ≡ 16 → mask_l (map (top 7) (zip2 other v w)) % 2 ^ 64 ≡ mask_l (map differ (zip v w))
difference_mask v w p q = ap (λ ms. mask_l ms % 2 ^ 64) (tops_zip v w) ∙ mask_l-mod (map differ (zip v w)) 64 (omega (arith, length-map (zip v w) differ, length-zip v w, p, q))

-- lists agree as far as no difference comes
pub agree : (v w : List ℕ) (n : ℕ) → n ≤ prefix_len (λ p. not (differ p)) (zip v w) → take n v ≡ take n w
agree v w zero h = refl
agree [] w (suc n) h = grind (arith, nat_tests, h)
agree (x ∷ xs) [] (suc n) h = grind (arith, nat_tests, h)
agree (x ∷ xs) (y ∷ ys) (suc n) h = grind (arith, nat_tests, agree xs ys n)

pub no_differences : (v w : List ℕ) (n : ℕ) → length v ≡ 16 → length w ≡ 16 → n ≤ 16 → n ≤ count_trailing_zeros 64 (mask_l (map differ (zip v w))) → take n v ≡ take n w
no_differences v w n p q few h = agree v w n (grind (arith, nat_tests, first_set_mask_l differ (zip v w) 16, length-zip v w, p, q, few, h))

-- ---- 16 bytes at a time

all_plain : (xs : List ℕ) → prefix_len is_plain xs ≡ length xs → mask_l (map is_stop xs) ≡ 0
all_plain [] e = refl
all_plain (x ∷ xs) e = grind (arith, nat_tests, all_plain xs, prefix_len-le-length)

split : (d : List ℕ) (i : ℕ) → prefix_len is_plain (drop i d)
    ≡ cond (eqb (prefix_len is_plain (chunk i 16 d)) (length (chunk i 16 d))) (length (chunk i 16 d) + prefix_len is_plain (drop (i + 16) d)) (prefix_len is_plain (chunk i 16 d))
split d i = ap (prefix_len is_plain) (chunk-drop i 16 d) ∙ prefix_len-append is_plain (chunk i 16 d) (drop (i + 16) d)

pub run_through : (d : List ℕ) (i : ℕ) → i + 16 ≤ length d → mask_l (map is_stop (chunk i 16 d)) ≡ 0 → prefix_len is_plain (drop i d) ≡ 16 + prefix_len is_plain (drop (i + 16) d)
run_through d i room none = grind (arith, nat_tests, chunk i 16 d, split d i, leading_from_mask_l is_stop, length-chunk i 16 d room, eq-eqb)

pub run_stops : (d : List ℕ) (i : ℕ) → i + 16 ≤ length d → 0 < mask_l (map is_stop (chunk i 16 d)) → prefix_len is_plain (drop i d) ≡ count_trailing_zeros 64 (mask_l (map is_stop (chunk i 16 d)))
run_stops d i room some = search (rules, chunk, split, ne_eqb, all_plain, trailing_mask_l, length-chunk)

pub ruleset runs = (nat_tests, run_through, run_stops)
