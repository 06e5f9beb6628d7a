-- Chains of tracers end within as many links as a user has processes, less one.
use Rattle.trace_rows.proofs.CommonNames.{cases_lt, nat_tests, AllByRecursion, list_any, ProcData, process_of, is_live, Rows, InOwnBlock, IsLiveOf, Linked, MidStepInvariant, ◌≡◌, ℕ, zero, suc, ◌+◌, ◌≤◌, List, [], ◌∷◌, length, filter, Bool}
use Rattle.trace_rows.proofs.CommonNames.{true, false, not, ◌&&◌, ◌||◌, ◌==◌, Option, Some, IfSome, refl, sym, ◌∙◌, arith, true≢false, eqb-true, subst, rules, count_by, tracer_of, exists, every_found, process_of-pid}
use Rattle.std.proofs.Common.{◌-◌}
use Rattle.trace_rows.specs.End.{meets}
use Rattle.std.specs.Option.{option_map_or}
use Rattle.trace_rows.specs.Laws.{chain, ChainsEnd, ChainsMeet, TraceeDeeper}
use Rattle.trace_rows.proofs.CommonLemmas.{none_of, and_left, by_bool, find_passes, All-imply, All-both, any_holds, any_more, find_some, count-cons, own_rows, if_at}

-- A chain link by link

pub meets-suc : (k : ℕ) (ps : List ProcData) (p n : ℕ) → meets (suc k) ps p n ≡ exists (λ t. (t == p) || meets k ps p t) (tracer_of ps n)
unfolding meets
meets-suc k ps p n = refl

pub meets-zero : (ps : List ProcData) (p n : ℕ) → meets zero ps p n ≡ false
unfolding meets
meets-zero ps p n = refl

-- more links meet no less
pub meets-more : (k : ℕ) (ps : List ProcData) (p n : ℕ) → meets k ps p n ≡ true → meets (suc k) ps p n ≡ true
unfolding meets
meets-more zero ps p n is = absurd (true≢false (sym is))
meets-more (suc k) ps p n is = grind (arith, nat_tests, meets-more k ps p, is)

-- Numbers that differ, each of a user's row, are no more than the user has rows

abbrev pub is_in : List ℕ → ℕ → Bool
is_in xs x = list_any (λ y. y == x) xs

abbrev AllDiffer : List ℕ → Type 0
AllDiffer [] = Unit {0}
AllDiffer (x ∷ xs) = (is_in xs x ≡ false) × AllDiffer xs

abbrev is_row_of : ℕ → ℕ → ProcData → Bool
is_row_of u x p = (p.pid == x) && (p.uid == u)

abbrev without_row : ℕ → List ProcData → List ProcData
without_row x ps = filter (λ p. not (p.pid == x)) ps

abbrev of_user : ℕ → ProcData → Bool
of_user u p = p.uid == u

count-le : (u x : ℕ) (ps : List ProcData) → count_by (of_user u) (without_row x ps) ≤ count_by (of_user u) ps
count-le u x [] = omega arith
count-le u x (p ∷ ps) = grind (arith, nat_tests, count-cons (of_user u) p ps, count-cons (of_user u) p (without_row x ps), count-le u x ps)

count-less : (u x : ℕ) (ps : List ProcData) → list_any (is_row_of u x) ps ≡ true → suc (count_by (of_user u) (without_row x ps)) ≤ count_by (of_user u) ps
count-less u x [] is = absurd (true≢false (sym is))
count-less u x (p ∷ ps) is = grind (arith, nat_tests, is, count-cons (of_user u) p ps, count-cons (of_user u) p (without_row x ps), count-le u x ps, count-less u x ps)

still_in : (u x y : ℕ) → (y == x) ≡ false → (ps : List ProcData) → list_any (is_row_of u y) ps ≡ true → list_any (is_row_of u y) (without_row x ps) ≡ true
still_in u x y other [] is = is
still_in u x y other (p ∷ ps) is = grind (arith, nat_tests, other, is, still_in u x y other ps)

no_more : (u : ℕ) (xs : List ℕ) (ps : List ProcData) → AllDiffer xs → AllByRecursion (λ x. list_any (is_row_of u x) ps ≡ true) xs → length xs ≤ count_by (of_user u) ps
no_more u [] ps differ rows = omega arith
no_more u (x ∷ xs) ps differ rows = omega (
  arith,
  count-less u x ps rows.0,
  no_more u xs (without_row x ps) differ.1
      (All-imply _ _ (λ y h. still_in u x y h.0 ps h.1) xs (All-both _ _ xs (none_of (λ y. y == x) xs differ.0) rows.1)),
)

-- What a chain passes is what its links meet

pub chain-suc : (k : ℕ) (ps : List ProcData) (n : ℕ) → chain (suc k) ps n ≡ n ∷ option_map_or (chain k ps) (tracer_of ps n) []
unfolding chain
chain-suc k ps n = refl

-- what holds of no chain, and of the chain from what the link leads to
if_onward : (P : List ℕ → Type 0) (f : ℕ → List ℕ) (o : Option ℕ) → P [] → ((t : ℕ) → o ≡ Some t → P (f t)) → P (option_map_or f o [])
if_onward P f o none some = grind (arith, none, some)

onward_meets : (k : ℕ) (ps : List ProcData) (x : ℕ) → ((t : ℕ) → is_in (chain k ps t) x ≡ ((t == x) || meets k ps x t)) → (o : Option ℕ) → is_in (option_map_or (chain k ps) o []) x ≡ exists (λ t. (t == x) || meets k ps x t) o
onward_meets k ps x h o = grind (arith, h)

pub chain_meets : (k : ℕ) (ps : List ProcData) (x t : ℕ) → is_in (chain k ps t) x ≡ ((t == x) || meets k ps x t)
unfolding meets chain
chain_meets zero ps x t = grind arith
chain_meets (suc k) ps x t = grind (arith, chain_meets k ps x, onward_meets k ps x)

pub meets-onward : (k : ℕ) (ps : List ProcData) (x n : ℕ) → meets (suc k) ps x n ≡ is_in (option_map_or (chain k ps) (tracer_of ps n) []) x
meets-onward k ps x n = meets-suc k ps x n ∙ sym (onward_meets k ps x (chain_meets k ps x) (tracer_of ps n))

pub meets-up : (j k : ℕ) (ps : List ProcData) (x n : ℕ) → meets k ps x n ≡ true → meets (j + k) ps x n ≡ true
meets-up zero k ps x n is = subst (λ m. meets m ps x n ≡ true) (omega arith) is
meets-up (suc j) k ps x n is = subst (λ m. meets m ps x n ≡ true) (omega arith) (meets-more (j + k) ps x n (meets-up j k ps x n is))

meets_within : (k m : ℕ) → k ≤ m → (ps : List ProcData) (x n : ℕ) → meets k ps x n ≡ true → meets m ps x n ≡ true
meets_within k m le ps x n is = subst (λ i. meets i ps x n ≡ true) (omega (arith, le)) (meets-up (m - k) k ps x n is)

-- A chain of rows without a ring

module _ (rows : Rows) (s : MidStepInvariant rows) where
  abbrev ps : List ProcData
  ps = rows.processes

  pub no_ring : (n : ℕ) → meets 250 ps n n ≡ false
  no_ring n = grind (arith, nat_tests, meets-suc, find_some, eqb-true)

  chain_differs : (k : ℕ) → k ≤ 250 → (n : ℕ) → AllDiffer (chain k ps n)
  unfolding chain
  chain_differs zero le n = (refl, tt)
  chain_differs (suc k) le n = (
    by_bool (is_in (option_map_or (chain k ps) (tracer_of ps n) []) n) (λ is. true≢false (sym (meets_within (suc k) 250 le ps n n (meets-onward k ps n n ∙ is)) ∙ no_ring n)),
    if_onward (AllDiffer) (chain k ps) (tracer_of ps n) tt (λ t is. chain_differs k (omega (arith, le)) t),
  )

  abbrev OfUser : ℕ → ℕ → Type 0
  OfUser u x = list_any (is_row_of u x) ps ≡ true

  of_user-found : (u x : ℕ) (r : ProcData) → process_of x ps ≡ Some r → r.uid ≡ u → OfUser u x
  of_user-found u x r is mine = grind (arith, nat_tests, find_passes (λ p. p.pid == x) (is_row_of u x) ps r is, process_of-pid x r ps is, mine)

  of_user-live : (u x : ℕ) → IsLiveOf rows u x → OfUser u x
  of_user-live u x is = any_more _ (is_row_of u x) (λ p h. and_left _ (is_live p) h) ps is

  -- the tracer of a user's row, if any, is of the same user
  tracer_of_user : (u x : ℕ) → OfUser u x → IfSome (tracer_of ps x) (OfUser u)
  tracer_of_user u x is = any_holds _ _ _ (λ r h e. grind (arith, nat_tests, h.0, h.1.tracer, of_user-live u, e)) ps (All-both _ (Linked rows) ps (own_rows ps s.rising) s.linked) is

  chain_rows : (u k n : ℕ) → OfUser u n → AllByRecursion (OfUser u) (chain k ps n)
  unfolding chain
  chain_rows u zero n is = (is, tt)
  chain_rows u (suc k) n is = (is, if_onward (AllByRecursion (OfUser u)) (chain k ps) (tracer_of ps n) tt (λ t to. chain_rows u k t (if_at _ _ t to (tracer_of_user u n is))))

  of_row : (n : ℕ) (r : ProcData) → process_of n ps ≡ Some r → length (chain 250 ps n) ≤ 250
  of_row n r is = omega (arith, s.few_processes r.uid (every_found InOwnBlock (λ x. x.pid == n) ps r s.in_own_blocks is).user, no_more r.uid (chain 250 ps n) ps (chain_differs 250 (omega arith) n) (chain_rows r.uid 250 n (of_user-found r.uid n r is refl)))

  short : (n : ℕ) → length (chain 250 ps n) ≤ 250
  short n = grind (arith, chain-suc 249 ps n, of_row n)

-- one link more finds nothing more if a chain has ended
pub chain-ended : (k : ℕ) (xs : List ProcData) (n : ℕ) → length (chain (suc k) xs n) ≤ suc k → chain (suc k) xs n ≡ chain k xs n
unfolding chain
chain-ended zero xs n le = grind arith
chain-ended (suc k) xs n le = grind (arith, chain-ended k xs)

module _ (rows : Rows) (s : MidStepInvariant rows) where
  abbrev qs : List ProcData
  qs = rows.processes

  settled : (n : ℕ) → chain 250 qs n ≡ chain 249 qs n
  settled n = chain-ended 249 qs n (short rows s n)

  chain-later : (j n : ℕ) → chain (j + 249) qs n ≡ chain 249 qs n
  chain-later zero n = refl
  chain-later (suc j) n = grind (arith, chain-suc (j + 249) qs n, chain-suc 249 qs n, settled n, chain-later j)

  found_again : (k n x : ℕ) → 249 ≤ k → is_in (option_map_or (chain k qs) (tracer_of qs n) []) x ≡ is_in (option_map_or (chain 248 qs) (tracer_of qs n) []) x
  found_again k n x le = grind (arith, nat_tests, chain-later (k - 249), short rows s n, chain-suc 249 qs n, chain-ended 248 qs, le)

pub chains_end : ChainsEnd
chains_end rows n s = short rows s n

pub chains_meet : ChainsMeet
chains_meet rows zero p n s is = meets_within zero 249 (omega arith) rows.processes p n is
chains_meet rows (suc k) p n s is = search (rules, cases_lt, meets_within, meets-onward, found_again)

pub tracee_deeper : TraceeDeeper
tracee_deeper rows tracee tracer s is = grind (arith, chain-suc 249 rows.processes tracee, settled rows s tracer, is)
