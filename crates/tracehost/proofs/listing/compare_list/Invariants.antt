use Rattle.{std.proofs.Common.{length}, tracehost.proofs.RowLemmas.{Walks}}
use Rattle.tracehost.proofs.listing.compare_list.Given as goal

abbrev pub invariant-loop-rest : goal.invariant-loop-rest
invariant-loop-rest g l = Walks (g.T.Texts.text l.texts) l.shown l.initial.rest l.rest l.tally

abbrev pub decreases-loop-rest : goal.decreases-loop-rest
decreases-loop-rest g l = length l.rest
