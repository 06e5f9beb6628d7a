-- Rows by their numbers.
use Rattle.std.proofs.Common.{◌≡◌, ◌≢◌, ℕ, zero, suc, ◌==◌, Bool, true, false, List, [], ◌∷◌, ◌++◌, Option, Some, None, filter, find, map, refl, sym, ap, ◌∙◌, arith, cond, drop, get_or, length, ◌+◌, ◌<◌}
use Rattle.std.specs.List.{AllByRecursion}
use Rattle.std.proofs.lemmas.Bool.Decides.{nat_tests}
use Rattle.std.proofs.lemmas.List.{at_drop_more}
use Rattle.lwp_table.specs.Lwps.{Lacks, Once}
use Rattle.json_trace.specs.Changes.{numbered}

module _ {R : Type 0} (number : R → ℕ) where
  lacks_at : (rows : List R) (n i : ℕ) (r : R) → Lacks number n rows → i < length rows → r ≡ get_or rows i r → number r ≢ n
  lacks_at [] n i r lacks more at = absurd (omega arith)
  lacks_at (x ∷ xs) n zero r lacks more at = λ same. lacks.0 (sym (ap number at) ∙ same)
  lacks_at (x ∷ xs) n (suc i) r lacks more at = lacks_at xs n i r lacks.1 (omega arith) at

  -- the row at a place is the one with its number
  pub numbered-at : (rows : List R) (n i : ℕ) (r : R) → Once number rows → i < length rows → r ≡ get_or rows i r → number r ≡ n → numbered number n rows ≡ Some r
  numbered-at [] n i r once more at is = absurd (omega arith)
  numbered-at (x ∷ xs) n zero r once more at is = let same : number x ≡ n = sym (ap number at) ∙ is in let found : numbered number n (x ∷ xs) ≡ Some x = grind (arith, nat_tests, same) in found ∙ ap (λ y. Some y) (sym at)
  numbered-at (x ∷ xs) n (suc i) r once more at is =
      let later = numbered-at xs n i r once.1 (omega arith) at is in
      let other = lacks_at xs (number x) i r once.0 (omega arith) at in grind (arith, nat_tests, later, other, is)

  -- a row has the number, or the first one with it comes later
  pub numbered-here : (rows : List R) (n i : ℕ) (r : R) → i < length rows → get_or rows i r ≡ r → (number r == n) ≡ true → numbered number n (drop i rows) ≡ Some r
  numbered-here rows n i r more here is = at_drop_more (numbered number n) rows i r more ∙ ap (λ x. numbered number n (x ∷ drop (i + 1) rows)) here ∙ ap (λ t. cond t (Some r) (numbered number n (drop (i + 1) rows))) is

  pub numbered-later : (rows : List R) (n i : ℕ) (r : R) → i < length rows → get_or rows i r ≡ r → (number r == n) ≡ false → numbered number n (drop i rows) ≡ numbered number n (drop (i + 1) rows)
  numbered-later rows n i r more here is = at_drop_more (numbered number n) rows i r more ∙ ap (λ x. numbered number n (x ∷ drop (i + 1) rows)) here ∙ ap (λ t. cond t (Some r) (numbered number n (drop (i + 1) rows))) is
