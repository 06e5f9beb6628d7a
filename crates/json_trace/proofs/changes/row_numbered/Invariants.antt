use Rattle.std.proofs.Common.{◌≡◌, drop}
use Rattle.json_trace.specs.Changes.{numbered}
use Rattle.json_trace.proofs.changes.row_numbered.Given as goal

-- the first row with the number is among those that are left
abbrev pub invariant-loop-row : goal.invariant-loop-row
invariant-loop-row g l = record {
  place : l.place ≡ l.row-index;
  left : numbered g.R.Row.number_of l.number l.rows ≡ numbered g.R.Row.number_of l.number (drop l.row-index l.rows);
}
