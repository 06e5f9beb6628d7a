use Rattle.{std.proofs.Common.{◌-◌, ◌≡◌, ℕ, ◌<◌, ◌≤◌, false}, proc_table.specs.Members.member}
use Rattle.proc_table.proofs.bit_sets.NumberSet.next.Given as goal

-- no number from `from` to below `at` is in the set
abbrev pub invariant-loop-at : goal.invariant-loop-at
invariant-loop-at l = record {
  reached : l.from ≤ l.at;
  before : (n : ℕ) → l.from ≤ n → n < l.at → member l.self.pages n ≡ false;
}

abbrev pub decreases-loop-at : goal.decreases-loop-at
decreases-loop-at l = l.end - l.at
