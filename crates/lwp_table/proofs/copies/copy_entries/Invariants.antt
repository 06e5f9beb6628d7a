use Rattle.std.proofs.Common.{◌≡◌, ◌≤◌, ◌+◌, ◌++◌, length, take}
use Rattle.lwp_table.proofs.copies.copy_entries.Given as goal

-- the entries up to this place and those that are left are the source's, and there are no more than these
abbrev pub invariant-loop-number : goal.invariant-loop-number
invariant-loop-number g l = record {
  can_next : (goal.iterator-loop-number g).can_next l.number-iterator;
  is_finite : (goal.iterator-loop-number g).is_finite l.number-iterator;
  whole : take l.at l.index.entries ++ l.number-iterator ≡ l.source.entries;
  place : l.at + length l.number-iterator ≡ length l.source.entries;
  within : l.at ≤ length l.index.entries;
  short : length l.index.entries ≤ l.at + length l.number-iterator;
}
