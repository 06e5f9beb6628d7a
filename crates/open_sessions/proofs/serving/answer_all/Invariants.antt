use Rattle.open_sessions.proofs.TalkLemmas.{Talking}
use Rattle.open_sessions.proofs.serving.answer_all.Given as goal

abbrev pub invariant-loop : goal.invariant-loop
invariant-loop g l =
    Talking l.style l.fn.session.host (g.R.Read.remaining l.fn.reader) (g.R.Read.remaining l.reader) (g.W.Write.contents l.fn.writer) (g.W.Write.contents l.writer)
    l.session.host l.session.made l.counter
