use Rattle.std.proofs.Common.{◌≡◌, take}
use Rattle.json_trace.specs.Changes.{changed}
use Rattle.json_trace.proofs.changes.changed_rows.Given as goal

-- the rows so far
abbrev pub invariant-loop-row : goal.invariant-loop-row
invariant-loop-row g l = l.changed.items ≡ changed g.R.Row.number_of g.R.PartialEq.eq l.before (take l.row-index l.after)
