-- The live children of a process, before and after a change.
use Rattle.trace_rows.proofs.CommonNames.{nat_tests, ProcData, is_live, Rows, IsLiveOf, IsLiveChild, ◌≡◌, ℕ, Bool, true, ◌==◌, ◌&&◌, arith}
use Rattle.trace_rows.proofs.Every.{and_left, any_more}

abbrev pub child_test : ProcData → ℕ → ProcData → Bool
child_test p n k = (k.pid == n) && (k.uid == p.uid) && is_live k && (k.parent == p.pid)

-- k is the live child of p with this number
pub record Child (p : ProcData) (n : ℕ) (k : ProcData) : Type 0 where
  pub pid : k.pid ≡ n
  pub uid : k.uid ≡ p.uid
  pub live : is_live k ≡ true
  pub parent : k.parent ≡ p.pid

pub child_from : (p : ProcData) (n : ℕ) (k : ProcData) → child_test p n k ≡ true → Child p n k
child_from p n k is = grind (arith, nat_tests)

pub child_passes : (p : ProcData) (n : ℕ) (k : ProcData) → Child p n k → child_test p n k ≡ true
child_passes p n k c = grind (arith, nat_tests)

-- it is a live process of the same user
pub child_lives : (rows : Rows) (p : ProcData) (n : ℕ) → IsLiveChild rows p n → IsLiveOf rows p.uid n
child_lives rows p n is = any_more _ _ (λ k h. and_left _ (k.parent == p.pid) h) rows.processes is
