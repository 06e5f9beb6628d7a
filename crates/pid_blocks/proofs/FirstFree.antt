-- The search for a free number, one number further.
use Rattle.{std.{proofs.Common.{◌≡◌, ℕ, zero, suc, ◌+◌, ◌-◌, ◌<◌, Bool, true, false, arith, refl}, specs.Prelude.Some}, pid_blocks.specs.Blocks.first_free}

-- a taken number is passed over
pub first_free-over : (taken : ℕ → Bool) (left n : ℕ) → 0 < left → taken n ≡ true → first_free taken left n ≡ first_free taken (left - 1) (n + 1)
first_free-over taken zero n some h = absurd (omega arith)
first_free-over taken (suc left) n some h =
    let less : suc left - 1 ≡ left = omega arith in
    rw less (rw (h, first_free) refl)

-- one that isn't taken is the answer
pub first_free-here : (taken : ℕ → Bool) (left n : ℕ) → 0 < left → taken n ≡ false → first_free taken left n ≡ Some n
first_free-here taken zero n some h = absurd (omega arith)
first_free-here taken (suc left) n some h = rw (h, first_free) refl
