use Rattle.{std.proofs.Common.{◌≡◌, ℕ, ◌-◌, ◌<◌, ◌≤◌, Bool, true}, pid_blocks.specs.{Blocks.first_free, Search.Decides}}
use Rattle.pid_blocks.proofs.blocks.first_free.Given as goal

-- what is left to search gives the answer of the whole, and all before is taken
abbrev pub invariant-loop-number : goal.invariant-loop-number
invariant-loop-number g l = record {
  rest : (test : ℕ → Bool) → Decides (goal.F-post g l.taken) l.from l.end test
      → first_free test (l.end - l.from) l.from ≡ first_free test (l.end - l.number) l.number;
  before : (n : ℕ) → l.from ≤ n → n < l.number → goal.F-post g l.taken n true;
}
