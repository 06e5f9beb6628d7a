-- The steps by which the content of a string is read, at a place of the text.
use Rattle.json_values.proofs.CommonNames.{nat_tests, ◌≡◌, ℕ, ◌+◌, ◌-◌, ◌<◌, ◌≤◌, cond, ◌&&◌, ◌==◌, false, List, [], ◌∷◌, ◌++◌, length, take, drop, get_or, Option, Some, None, option_and_then, refl, sym, ap, ◌∙◌, arith}
use Rattle.json_values.proofs.CommonNames.{drop_more, drop-drop, drop_all, get_or-drop, get_or_default, length-drop, prefix_len, prepend, plain, is_plain, content}
use Rattle.json_values.proofs.Texts.{content_run, stops}
use Rattle.std.proofs.lemmas.List.{append_assoc}
use Rattle.std.specs.Char.{encode_utf8, len_utf8}
use Rattle.json.specs.Text.{code_unit, short_escape, is_high_surrogate, is_low_surrogate, surrogate_pair, Within, after_backslash, after_u, after_high}

pub content-nil : (w : Within) → content w [] ≡ None
unfolding content
content-nil plain = refl
content-nil after_backslash = refl
content-nil after_u = refl
content-nil (after_high h) = refl

pub short_after_u : (xs : List ℕ) → length xs < 4 → content after_u xs ≡ None
unfolding content
short_after_u [] h = refl
short_after_u (a ∷ []) h = refl
short_after_u (a ∷ b ∷ []) h = refl
short_after_u (a ∷ b ∷ c ∷ []) h = refl
short_after_u (a ∷ b ∷ c ∷ d ∷ xs) h = absurd (omega arith)

pub short_after_high : (high : ℕ) (xs : List ℕ) → length xs < 6 → content (after_high high) xs ≡ None
unfolding content
short_after_high high [] h = refl
short_after_high high (s ∷ []) h = refl
short_after_high high (s ∷ u ∷ []) h = refl
short_after_high high (s ∷ u ∷ a ∷ []) h = refl
short_after_high high (s ∷ u ∷ a ∷ b ∷ []) h = refl
short_after_high high (s ∷ u ∷ a ∷ b ∷ c ∷ []) h = refl
short_after_high high (s ∷ u ∷ a ∷ b ∷ c ∷ d ∷ xs) h = absurd (omega arith)

pub content-after_backslash : (d : List ℕ) (i : ℕ) → i < length d → content after_backslash (drop i d)
    ≡ cond (get_or d i 0 == 117) (content after_u (drop (i + 1) d)) (option_and_then (λ c. prepend (c ∷ []) (content plain (drop (i + 1) d))) (short_escape (get_or d i 0)))
unfolding content
content-after_backslash d i h = ap (content after_backslash) (drop_more d i 0 h)

-- the byte at a place, before those at the next
next : (d : List ℕ) (j k : ℕ) → k ≡ j + 1 → j < length d → drop j d ≡ get_or d j 0 ∷ drop k d
next d j k e l = drop_more d j 0 l ∙ ap (λ n. get_or d j 0 ∷ drop n d) (sym e)

four : (d : List ℕ) (i : ℕ) → i + 4 ≤ length d → drop i d ≡ get_or d i 0 ∷ get_or d (i + 1) 0 ∷ get_or d (i + 2) 0 ∷ get_or d (i + 3) 0 ∷ drop (i + 4) d
four d i h =
    next d i (i + 1) refl (omega arith)
    ∙ ap (λ l. get_or d i 0 ∷ l) (next d (i + 1) (i + 2) (omega arith) (omega arith)
    ∙ ap (λ l. get_or d (i + 1) 0 ∷ l) (next d (i + 2) (i + 3) (omega arith) (omega arith)
    ∙ ap (λ l. get_or d (i + 2) 0 ∷ l) (next d (i + 3) (i + 4) (omega arith) (omega arith))))

pub content-after_u : (d : List ℕ) (i : ℕ) → i + 4 ≤ length d → content after_u (drop i d)
    ≡ option_and_then (λ u. cond (is_high_surrogate u) (content (after_high u) (drop (i + 4) d)) (cond (is_low_surrogate u) None (prepend (encode_utf8 u) (content plain (drop (i + 4) d)))))
    (code_unit (get_or d i 0) (get_or d (i + 1) 0) (get_or d (i + 2) 0) (get_or d (i + 3) 0))
unfolding content
content-after_u d i h = ap (content after_u) (four d i h)

pub content-after_high : (d : List ℕ) (i high : ℕ) → i + 6 ≤ length d → content (after_high high) (drop i d)
    ≡ cond ((get_or d i 0 == 92) && (get_or d (i + 1) 0 == 117))
    (option_and_then (λ l. cond (is_low_surrogate l) (prepend (encode_utf8 (surrogate_pair high l)) (content plain (drop (i + 6) d))) None)
    (code_unit (get_or d (i + 2) 0) (get_or d (i + 2 + 1) 0) (get_or d (i + 2 + 2) 0) (get_or d (i + 2 + 3) 0))) None
unfolding content
content-after_high d i high h =
    let six : i + 2 + 4 ≡ i + 6 = omega arith in
    let digits = four d (i + 2) (omega arith) ∙ ap (λ n. get_or d (i + 2) 0 ∷ get_or d (i + 2 + 1) 0 ∷ get_or d (i + 2 + 2) 0 ∷ get_or d (i + 2 + 3) 0 ∷ drop n d) six in
    ap (content (after_high high)) (next d i (i + 1) refl (omega arith) ∙ ap (λ l. get_or d i 0 ∷ l) (next d (i + 1) (i + 2) (omega arith) (omega arith) ∙ ap (λ l. get_or d (i + 1) 0 ∷ l) digits))

pub len_utf8-le : (c : ℕ) → len_utf8 c ≤ 4
len_utf8-le c = grind arith

pub prepend-prepend : (a b : List ℕ) (r : Option (List ℕ)) → prepend a (prepend b r) ≡ prepend (a ++ b) r
prepend-prepend a b None = refl
prepend-prepend a b (Some s) = ap Some (sym (append_assoc a b s))

-- ---- from a place up to the one at which the plain bytes stop

pub content-to_stop : (d : List ℕ) (i stop : ℕ) → stop ≡ i + prefix_len is_plain (drop i d) → content plain (drop i d) ≡ prepend (take (stop - i) (drop i d)) (content plain (drop stop d))
content-to_stop d i stop is =
    let n : prefix_len is_plain (drop i d) ≡ stop - i = omega arith in
    content_run (drop i d) ∙ ap (λ l. prepend (take (prefix_len is_plain (drop i d)) (drop i d)) (content plain l)) (drop-drop _ i d ∙ ap (λ k. drop k d) (sym is))
    ∙ ap (λ k. prepend (take k (drop i d)) (content plain (drop stop d))) n

pub at_quote : (d : List ℕ) (i : ℕ) → i < length d → get_or d i 0 ≡ 34 → content plain (drop i d) ≡ Some []
unfolding content
at_quote d i h e = ap (content plain) (drop_more d i 0 h ∙ ap (λ x. x ∷ drop (i + 1) d) e)

pub at_backslash : (d : List ℕ) (i : ℕ) → i < length d → get_or d i 0 ≡ 92 → content plain (drop i d) ≡ content after_backslash (drop (i + 1) d)
unfolding content
at_backslash d i h e = ap (content plain) (drop_more d i 0 h ∙ ap (λ x. x ∷ drop (i + 1) d) e)

low_byte : (x : ℕ) (xs : List ℕ) → x < 32 → content plain (x ∷ xs) ≡ None
unfolding content
low_byte x xs e = grind (arith, nat_tests)

pub at_control : (d : List ℕ) (i : ℕ) → i < length d → get_or d i 0 < 32 → content plain (drop i d) ≡ None
at_control d i h e = ap (content plain) (drop_more d i 0 h) ∙ low_byte _ _ e

pub at_end : (d : List ℕ) (i : ℕ) → length d ≤ i → content plain (drop i d) ≡ None
at_end d i h = ap (content plain) (drop_all i d h) ∙ content-nil plain

stop_byte : (x : ℕ) → is_plain x ≡ false → (x ≡ 34 → ⊥) → 32 ≤ x → x ≡ 92
stop_byte x e q l = grind (arith, nat_tests)

-- a stop that is no quote and no control byte is a backslash
pub stop_is_backslash : (d : List ℕ) (i stop : ℕ) → stop ≡ i + prefix_len is_plain (drop i d) → stop < length d → (get_or d stop 0 ≡ 34 → ⊥) → 32 ≤ get_or d stop 0 → get_or d stop 0 ≡ 92
stop_is_backslash d i stop is h q l =
    let there = get_or_default d stop 0 32 h ∙ ap (λ k. get_or d k 32) is ∙ sym (get_or-drop i d _ 32) in
    stop_byte _ (ap is_plain there ∙ stops (drop i d) (omega (arith, length-drop i d))) q l
