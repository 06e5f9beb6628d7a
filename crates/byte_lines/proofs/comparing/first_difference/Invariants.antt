use Rattle.{std.proofs.Common.{◌+◌, length}, byte_lines.proofs.WalkLemmas.Agrees}
use Rattle.byte_lines.proofs.comparing.first_difference.Given as goal

abbrev pub invariant-loop-expected_rest : goal.invariant-loop-expected_rest
invariant-loop-expected_rest l = Agrees l.expected l.got l.expected_rest l.got_rest l.line

abbrev pub decreases-loop-expected_rest : goal.decreases-loop-expected_rest
decreases-loop-expected_rest l = length l.expected_rest + length l.got_rest
