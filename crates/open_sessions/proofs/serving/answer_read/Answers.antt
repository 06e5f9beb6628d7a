use Rattle.open_sessions.proofs.LineAnswers.{told_unflushed}
use Rattle.open_sessions.proofs.serving.answer_read.Goals as goal

pub returns-in-Err : goal.returns-in-Err
returns-in-Err g c =
    told_unflushed c.args.style c.args.line.now c.args.session.now.host c.answer_line.new.session.host c.args.session.now.made c.answer_line.new.session.made
    (g.W.Write.contents c.args.writer.now) (g.W.Write.contents c.answer_line.new.writer) (g.W.Write.contents c.flush.new.writer)
    (rw c.in-Ok.is at c.answer_line.ensures) c.flush.ensures.kept
