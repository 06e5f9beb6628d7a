use Rattle.std.proofs.Common.{◌≡◌, take}
use Rattle.json_trace.specs.Changes.{removed}
use Rattle.json_trace.proofs.changes.removed_numbers.Given as goal

-- the numbers so far
abbrev pub invariant-loop-row : goal.invariant-loop-row
invariant-loop-row g l = l.removed.items ≡ removed g.R.Row.number_of (take l.row-index l.before) l.after
