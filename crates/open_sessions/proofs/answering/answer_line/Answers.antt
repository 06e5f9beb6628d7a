use Rattle.open_sessions.proofs.LineAnswers.{told_by}
use Rattle.open_sessions.proofs.answering.answer_line.Goals as goal

pub returns-in-Ok : goal.returns-in-Ok
returns-in-Ok g c =
    told_by c.args.style c.write_last.result c.args.line.now c.args.session.now c.answer.new.self (g.W.Write.contents c.args.writer.now) (g.W.Write.contents c.write_last.new.writer)
    c.in-Ok.ensures.answered c.write_last.ensures
