-- Words with one bit changed, and the places of bits.
use Rattle.std.proofs.Common.{◌≡◌, ◌≢◌, ℕ, ◌<◌, ◌≤◌, ◌+◌, ◌-◌, ◌*◌, ◌/◌, ◌%◌, ◌^◌, ◌==◌, true, false, List, length, get_or, set, ap, sym, ◌∙◌, arith}
use Rattle.std.proofs.Common.{[], ◌∷◌, ◌++◌, replicate, subst, length-append, length-set}
use Rattle.std.proofs.lemmas.Bool.Decides.{nat_tests}
use Rattle.std.proofs.lemmas.List.{get_or-set_same, get_or-set_other, get_or-replicate, get_or_past, get_or_append_left, length-replicate}
use Rattle.{std.{proofs.lemmas.Nat.{shr-shr, Bits.{bit_at_above, bit_at-zero}}, specs.Int.bit_at}, lwp_table.{specs.Places.{placed, ArePlaced}, proofs.PlaceLemmas.{none_placed, few, free, value_at, long_placed, replaced, are_with, placed_with, last_added}}, proc_table.specs.Members.{has_bit, member, word_at, IsBegun, IsPaged}}

-- a set without pages has no number
pub no_member : (n : ℕ) → member (replicate 64 []) n ≡ false
no_member n = grind (arith, nat_tests, get_or-replicate {A = List ℕ} 64 (n / 64 / 16) [] [], get_or_past {X = List ℕ} (replicate 64 []) (n / 64 / 16) [], bit_at-zero (n % 64))

-- a page without a number contains what no page contains
word_begun : (pages : List (List ℕ)) (p : ℕ) → p < length pages → get_or pages p [] ≡ [] → (j : ℕ) → word_at (set pages p (replicate 16 0)) j ≡ word_at pages j
word_begun pages p within none j = grind (arith, nat_tests, get_or-set_same pages p (replicate 16 0) [], get_or-set_other pages p (j / 16) (replicate 16 0) [], get_or-replicate {A = ℕ} 16 (j % 16) 0 0)

-- a word is replaced
module _ (pages : List (List ℕ)) (k word : ℕ) (within : k / 16 < length pages) (long : length (get_or pages (k / 16) []) ≡ 16) where
  abbrev page : List ℕ
  page = set (get_or pages (k / 16) []) (k % 16) word

  word_set : word_at (set pages (k / 16) page) k ≡ word
  word_set = ap (λ p. get_or p (k % 16) 0) (get_or-set_same pages (k / 16) page [] within) ∙ get_or-set_same (get_or pages (k / 16) []) (k % 16) word 0 (omega (arith, long))

  others_stay : (j : ℕ) → j ≢ k → word_at (set pages (k / 16) page) j ≡ word_at pages j
  others_stay j apart = grind (arith, nat_tests, get_or-set_same pages (k / 16) page [] within, get_or-set_other pages (k / 16) (j / 16) page [], get_or-set_other (get_or pages (k / 16) []) (k % 16) (j % 16) word 0)

-- and no page ends
pages_stay : (pages : List (List ℕ)) (k word : ℕ) → k / 16 < length pages → (j : ℕ) → IsBegun pages j → IsBegun (set pages (k / 16) (set (get_or pages (k / 16) []) (k % 16) word)) j
pages_stay pages k word within j begun = grind (arith, nat_tests, length-set (get_or pages (k / 16) []) (k % 16) word, get_or-set_same pages (k / 16) (set (get_or pages (k / 16) []) (k % 16) word) [] within, get_or-set_other pages (k / 16) (j / 16) (set (get_or pages (k / 16) []) (k % 16) word) [], begun)

-- the pages of a set; each place has one or none
module _ (is : List ℕ) (xs : List (List ℕ)) (paged : IsPaged is xs) where
  abbrev whole : List (List ℕ)
  whole = placed [] xs is

  pub few_pages : length xs ≤ 64
  few_pages = few [] xs is paged.placed

  -- there are no words past 64 pages
  pub word_past : (k : ℕ) → 64 ≤ k / 16 → word_at whole k ≡ 0
  word_past k past = ap (λ page. get_or page (k % 16) 0) (get_or_past whole (k / 16) [] (omega (arith, past, long_placed [] xs is paged.placed)))

  pub word_is : (k : ℕ) → k / 16 < 64 → word_at whole k ≡ get_or (get_or xs (get_or is (k / 16) 0) []) (k % 16) 0
  word_is k low = ap (λ page. get_or page (k % 16) 0) (value_at [] xs is paged.placed (k / 16) low)

  module _ (k : ℕ) (low : k / 16 < 64) where
    pub begun_page : get_or is (k / 16) 0 < length xs → IsBegun whole k
    begun_page there = omega (arith, ap length (value_at [] xs is paged.placed (k / 16) low), paged.full (get_or is (k / 16) 0) there)

    pub begun_index : IsBegun whole k → get_or is (k / 16) 0 < length xs
    begun_index begun = grind (arith, nat_tests, value_at [] xs is paged.placed (k / 16) low, get_or_past xs (get_or is (k / 16) 0) [], begun)

    -- a page is begun
    module _ (past : length xs ≤ get_or is (k / 16) 0) where
      with_page : placed [] (xs ++ replicate 16 0 ∷ []) (set is (k / 16) (length xs)) ≡ set whole (k / 16) (replicate 16 0)
      with_page = placed_with [] xs is paged.placed (k / 16) low past (replicate 16 0)

      pub free_page : length xs < 64
      free_page = free [] xs is paged.placed (k / 16) low past

      pub paged_with : IsPaged (set is (k / 16) (length xs)) (xs ++ replicate 16 0 ∷ [])
      paged_with = record {
        placed = subst (ArePlaced (set is (k / 16) (length xs))) (sym (length-append xs (replicate 16 0 ∷ []))) (are_with [] xs is paged.placed (k / 16) low past);
        full = λ i within. grind (arith, nat_tests, length-append xs (replicate 16 0 ∷ []), get_or_append_left xs (replicate 16 0 ∷ []) [] i, last_added xs (replicate 16 0) [], paged.full i);
      }

      pub words_with : (j : ℕ) → word_at (placed [] (xs ++ replicate 16 0 ∷ []) (set is (k / 16) (length xs))) j ≡ word_at whole j
      words_with j = rw with_page (word_begun whole (k / 16) (omega (arith, low, long_placed [] xs is paged.placed)) (value_at [] xs is paged.placed (k / 16) low ∙ get_or_past xs (get_or is (k / 16) 0) [] past) j)

      pub begun_still : (j : ℕ) → IsBegun whole j → IsBegun (placed [] (xs ++ replicate 16 0 ∷ []) (set is (k / 16) (length xs))) j
      begun_still j begun = rw with_page (grind (arith, nat_tests, length-replicate {A = ℕ} 16 0, get_or-set_same whole (k / 16) (replicate 16 0) [] (omega (arith, low, long_placed [] xs is paged.placed)), get_or-set_other whole (k / 16) (j / 16) (replicate 16 0) [], begun))

      pub begun_with : IsBegun (placed [] (xs ++ replicate 16 0 ∷ []) (set is (k / 16) (length xs))) k
      begun_with = omega (arith, ap (λ ps. length (get_or ps (k / 16) [])) with_page, ap length (get_or-set_same whole (k / 16) (replicate 16 0) [] (omega (arith, low, long_placed [] xs is paged.placed))))

    -- a word of a page is replaced
    module _ (word : ℕ) (there : get_or is (k / 16) 0 < length xs) where
      abbrev changed : List (List ℕ)
      changed = set xs (get_or is (k / 16) 0) (set (get_or xs (get_or is (k / 16) 0) []) (k % 16) word)

      pub paged_set : IsPaged is changed
      paged_set = record {
        placed = subst (ArePlaced is) (sym (length-set xs (get_or is (k / 16) 0) (set (get_or xs (get_or is (k / 16) 0) []) (k % 16) word))) paged.placed;
        full = λ i within. grind (arith, nat_tests, length-set, get_or-set_same, get_or-set_other, paged.full i, paged.full (get_or is (k / 16) 0));
      }

      with_word : placed [] changed is ≡ set whole (k / 16) (set (get_or whole (k / 16) []) (k % 16) word)
      with_word = replaced [] xs is paged.placed (k / 16) (set (get_or xs (get_or is (k / 16) 0) []) (k % 16) word) low there ∙ ap (λ p. set whole (k / 16) (set p (k % 16) word)) (sym (value_at [] xs is paged.placed (k / 16) low))

      inside : k / 16 < length whole
      inside = omega (arith, low, long_placed [] xs is paged.placed)

      long : length (get_or whole (k / 16) []) ≡ 16
      long = ap length (value_at [] xs is paged.placed (k / 16) low) ∙ paged.full (get_or is (k / 16) 0) there

      pub word_put : word_at (placed [] changed is) k ≡ word
      word_put = rw with_word (word_set whole k word inside long)

      pub others_put : (j : ℕ) → j ≢ k → word_at (placed [] changed is) j ≡ word_at whole j
      others_put j apart = rw with_word (others_stay whole k word inside long j apart)

      pub begun_put : (j : ℕ) → IsBegun whole j → IsBegun (placed [] changed is) j
      begun_put j begun = rw with_word (pages_stay whole k word inside j begun)

-- a word replaces the one with n's bit: n's bit is the new word's, and the others stay if the word's do
pub member-here : (pages : List (List ℕ)) (n v : ℕ) → word_at pages (n / 64) ≡ v → member pages n ≡ has_bit v (n % 64)
member-here pages n v here = ap (λ x. has_bit x (n % 64)) here

pub member-others : (old new : List (List ℕ)) (n v : ℕ) → word_at new (n / 64) ≡ v → ((j : ℕ) → j ≢ n / 64 → word_at new j ≡ word_at old j)
    → ((i : ℕ) → i < 64 → i ≢ n % 64 → has_bit v i ≡ has_bit (word_at old (n / 64)) i)
    → (m : ℕ) → m ≢ n → member new m ≡ member old m
member-others old new n v here others stays m apart = grind (arith, nat_tests, others (m / 64), stays (m % 64))

-- the page of a member was begun
pub begun : (pages : List (List ℕ)) (n : ℕ) → member pages n ≡ true → 0 < length (get_or pages (n / 64 / 16) [])
begun pages n there = grind (arith, nat_tests, get_or_past (get_or pages (n / 64 / 16) []) (n / 64 % 16) 0, bit_at-zero (n % 64))

-- a bit of a word shifted to the right is, in the word, that much higher
pub has_bit-shifted : (word from i : ℕ) → has_bit (word / 2 ^ from) i ≡ has_bit word (from + i)
has_bit-shifted word from i = ap (λ x. x % 2 == 1) (shr-shr word from i)

pub has_bit-one : (word i : ℕ) → bit_at word i ≡ 1 → has_bit word i ≡ true
has_bit-one word i e = ap (λ d. d == 1) e

pub has_bit-none : (word i : ℕ) → bit_at word i ≡ 0 → has_bit word i ≡ false
has_bit-none word i e = ap (λ d. d == 1) e

-- the places of a word's 1s are below 64
pub has_bit-below : (word i : ℕ) → word < 2 ^ 64 → has_bit word i ≡ true → i < 64
has_bit-below word i fits e = grind (arith, bit_at_above word 64 i fits)

pub has_bit-up : (word from i : ℕ) → from ≤ i → has_bit word i ≡ has_bit (word / 2 ^ from) (i - from)
has_bit-up word from i low =
    let e : from + (i - from) ≡ i = omega arith in
    ap (has_bit word) (sym e) ∙ sym (has_bit-shifted word from (i - from))

member-at : (pages : List (List ℕ)) (at n i : ℕ) → n / 64 ≡ at / 64 → n % 64 ≡ i → member pages n ≡ has_bit (word_at pages (at / 64)) i
member-at pages at n i word place = ap (λ w. has_bit (word_at pages w) (n % 64)) word ∙ ap (has_bit (word_at pages (at / 64))) place

pub next-here : (pages : List (List ℕ)) (at place : ℕ) → place < 64 → has_bit (word_at pages (at / 64)) place ≡ true → member pages (at / 64 * 64 + place) ≡ true
next-here pages at place below one = grind (arith, member-at pages at (at / 64 * 64 + place) place)

pub next-before : (pages : List (List ℕ)) (at place : ℕ) → place < 64
    → ((i : ℕ) → at % 64 ≤ i → i < place → has_bit (word_at pages (at / 64)) i ≡ false)
    → (n : ℕ) → at ≤ n → n < at / 64 * 64 + place → member pages n ≡ false
next-before pages at place below none n low high = grind (arith, member-at pages at n (n % 64), none (n % 64))

-- no page was begun
pub none_paged : IsPaged (replicate 64 255) []
none_paged = record { placed = none_placed; full = λ i within. absurd (omega (arith, within)) }
