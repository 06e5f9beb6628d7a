-- Sets of signals as numbers, bit by bit.
use Rattle.signals.proofs.CommonNames.{◌≡◌, ℕ, zero, suc, ◌+◌, ◌-◌, ◌^◌, ◌<◌, ◌≤◌, Bool, true, false, arith, refl, sym, ap, ◌∙◌, bit_and, bit_or, w32, rules, bit_at, trailing_zeros, or_lt, xor_lt}
use Rattle.signals.proofs.CommonNames.{pow_pos, and_le_l, bit_at_and, bit_at_or, bit_at_xor, bit_at_not, bit_at-lt, same_from_bits_below, and_pow, bit_at-trailing_zeros, bit_at_above, Some, find}
use Rattle.signals.proofs.CommonNames.{Result, Ok, Err, OkIff, result_ok, cases_lt, range_with_len, without, has, lowest}
use Rattle.signals.proofs.Rising.{find-over, find-here}

-- a difference, computed in two ways
pub difference-is : (a b : ℕ) → a < 2 ^ 31 → b < 2 ^ 31 → bit_and a (2 ^ 32 - 1 - b) ≡ without a b
difference-is a b small other =
    let narrow : a < 2 ^ 32 = omega arith in
    let wide : b < 2 ^ 32 = omega arith in
    let below : bit_and a (2 ^ 32 - 1 - b) ≤ a = and_le_l a (2 ^ 32 - 1 - b) in
    same_from_bits_below 32 (bit_and a (2 ^ 32 - 1 - b)) (without a b) (omega arith) (xor_lt 32 (bit_or a b) b (or_lt 32 a b narrow wide) wide)
    (λ i within. grind (arith, bit_at_not w32 b i wide within, bit_at_and, bit_at_xor, bit_at_or, bit_at-lt))

-- a number is in the set if its bit is 1
pub has-one : (set k : ℕ) → bit_at set k ≡ 1 → has set (k + 1) ≡ true
has-one set k one = search (rules, bit_and, and_pow, pow_pos)

pub has-zero : (set k : ℕ) → bit_at set k ≡ 0 → has set (k + 1) ≡ false
has-zero set k none = search (rules, bit_and, and_pow)

-- the first of the numbers that passes
find-first : (p : ℕ → Bool) (n left k : ℕ) → k < left → ((i : ℕ) → i < k → p (n + i) ≡ false) → p (n + k) ≡ true → find p (range_with_len n left) ≡ Some (n + k)
find-first p n left zero within before here =
    let same : n + 0 ≡ n = omega arith in
    find-here p n left within (rw same at here) ∙ ap (λ x. Some x) (sym same)
find-first p n left (suc k) within before here =
    let next : n + suc k ≡ n + 1 + k = omega arith in
    find-over p n left (omega arith) (let same : n + 0 ≡ n = omega arith in rw same at (before 0 (omega arith)))
    ∙ (find-first p (n + 1) (left - 1) k (omega arith) (λ i less. let e : n + (i + 1) ≡ n + 1 + i = omega arith in rw e at (before (i + 1) (omega arith))) (rw next at here)
    ∙ ap (λ x. Some x) (sym next))

-- the signal of the least number, by the zeros below its bit
least-some : (set : ℕ) → 0 < set → set < 2 ^ 31 → (trailing_zeros w32 set < 31) × (lowest set ≡ Some (trailing_zeros w32 set + 1))
least-some set some small =
    let k = trailing_zeros w32 set in
    let at = bit_at-trailing_zeros w32 set some (omega arith) in
    let within : k < 31 = grind (arith, at.1, bit_at_above set 31 k small) in
    (within, find-first (has set) 1 31 k within (λ i less. grind (arith, has-zero set i (at.2 i less))) (grind (arith, has-one set k at.1)) ∙ ap (λ x. Some x) (omega arith))

zeros-of-none : trailing_zeros w32 0 ≡ 32
unfolding lib.Count.count_trailing_zeros
zeros-of-none = refl

pub lowest-is : {E : Type 0} (set : ℕ) (r : Result ℕ E) → set < 2 ^ 31 → OkIff r ((1 ≤ trailing_zeros w32 set + 1) × (trailing_zeros w32 set + 1 ≤ 31)) (trailing_zeros w32 set + 1) → result_ok r ≡ lowest set
lowest-is set (Ok n) small h = search (rules, cases_lt, w32, least-some, zeros-of-none)
lowest-is set (Err e) small h = grind (arith, least-some set)
