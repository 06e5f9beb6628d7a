use Rattle.byte_lines.proofs.WriteLemmas.{Front}
use Rattle.byte_lines.proofs.writing.write_all.Given as goal

abbrev pub invariant-loop : goal.invariant-loop
invariant-loop g l = Front (g.W.Write.contents l.initial.writer) (g.W.Write.contents l.writer) l.rest l.bytes
