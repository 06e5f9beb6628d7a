-- Cursors of the users' blocks.
use Rattle.proc_table.proofs.CommonNames.{◌≡◌, ℕ, zero, suc, ◌+◌, ◌-◌, ◌<◌, List, ◌∷◌, ◌++◌, length, set, get_or, map, refl, ap, arith, rules, replicate, get_or-set_same, get_or-set_other, cases_Bool}
use Rattle.proc_table.proofs.CommonNames.{nat_tests, IsUser, slot, users, rising, cursor_after, InBlock, Block}

-- cursors stay in their blocks
pub InBlock-after : (b : Block) (n : ℕ) → InBlock b n → 0 < b.size → InBlock b (cursor_after b n)
InBlock-after b n h some = search (rules, cases_Bool, nat_tests)

pub cursors-set : (block : ℕ → Block) (cursors : List ℕ) (v c : ℕ) → IsUser v → length cursors ≡ 64 → InBlock (block v) c
    → ((u : ℕ) → IsUser u → InBlock (block u) (get_or cursors (slot u) 0))
    → (u : ℕ) → IsUser u → InBlock (block u) (get_or (set cursors (slot v) c) (slot u) 0)
cursors-set block cursors v c user len home all u its = search (rules, cases_Bool, nat_tests, get_or-set_same, get_or-set_other)

-- a list of one value for each of some numbers that rise
pub get_or-rising : (f : ℕ → ℕ) (n m k d : ℕ) → k < n → get_or (map f (rising n m)) k d ≡ f (m + k)
get_or-rising f zero m k d h = absurd (omega arith)
get_or-rising f (suc n) m zero d h = grind (arith, nat_tests)
get_or-rising f (suc n) m (suc k) d h = grind (arith, nat_tests, get_or-rising f n (m + 1) k d)

pub length-rising : (f : ℕ → ℕ) (n m : ℕ) → length (map f (rising n m)) ≡ n
length-rising f zero m = refl
length-rising f (suc n) m = ap suc (length-rising f n (m + 1))

-- the first number of each user's block
pub cursors-first : (block : ℕ → Block) → ((u : ℕ) → 0 < (block u).size) → (u : ℕ) → IsUser u → InBlock (block u) (get_or (map (λ v. (block v).first) users) (slot u) 0)
cursors-first block some u its = grind (arith, nat_tests, get_or-rising (λ v. (block v).first) 64 1001 (slot u) 0)

-- a list filled from its start, one place further
pub filled : (f : ℕ → ℕ) (n i : ℕ) (numbers : List ℕ) (v : ℕ) → i < n → numbers ≡ map f (rising i 1001) ++ replicate (n - i) 0 → v ≡ f (1001 + i)
    → set numbers i v ≡ map f (rising (i + 1) 1001) ++ replicate (n - (i + 1)) 0
filled f n i numbers v h e same = rw (e, same) (from i (n - i) (n - (i + 1)) 1001 (omega arith))
  where
    from : (i left less m : ℕ) → left ≡ less + 1 → set (map f (rising i m) ++ replicate left 0) i (f (m + i)) ≡ map f (rising (i + 1) m) ++ replicate less 0
    from zero left less m e = let one : left ≡ suc less = omega arith in let at : m + 0 ≡ m = omega arith in rw (one, at) refl
    from (suc i) left less m e =
        let at : m + suc i ≡ m + 1 + i = omega arith in
        let more : suc i + 1 ≡ suc (i + 1) = omega arith in
        rw (at, more) (ap (λ xs. f m ∷ xs) (from i left less (m + 1) e))
