use Rattle.{std.proofs.Common.ap, open_sessions.proofs.LineAnswers.serves_flushed}
use Rattle.open_sessions.proofs.serving.serve.Goals as goal

pub returns-clause-serves : goal.returns-clause-serves
returns-clause-serves g c =
    serves_flushed _ _ _ _ _ _ _ _ (rw (ap (λ s. s.host) c.new-session.ensures) at c.answer_all-served.ensures.serves) c.flush_after.ensures

pub answer_all-served-requires : goal.answer_all-served-requires
answer_all-served-requires g c = ap (λ s. s.made) c.new-session.ensures
