use Rattle.{std.proofs.Common.{◌≡◌, ◌≤◌, ◌⊎◌, List, ℕ, [], take, length, true}, byte_lines.specs.Lines.Loses}
use Rattle.byte_lines.proofs.reading.read_line.Given as goal

abbrev pub invariant-loop : goal.invariant-loop
invariant-loop g l = record {
  few : length l.line.items ≤ l.most;
  text : List ℕ;
  lost : Loses (g.R.Read.remaining l.fn.reader) (g.R.Read.remaining l.reader) text [];
  kept : l.line.items ≡ take l.most text;
  long : (g.R.LineSource.may_fail ≡ true) ⊎ (l.counter ≤ length text);
}
