use Rattle.{std.{proofs.Common.{refl, sym, ap, subst, inl, inr}, specs.Prelude.Some}, open_sessions.specs.Calls.Answers, tracehost_c.specs.Calls.{line_answered, line_full}}
use Rattle.tracehost_c.proofs.calls.put_line.Goals as goal

pub returns-in-Ok-show-clause-call : goal.returns-in-Ok-show-clause-call
returns-in-Ok-show-clause-call c =
    let answers = subst (Answers c.args.line.now c.args.session.now) (sym c.show.ensures.session) c.in-Ok.ensures.answered in
    line_answered c.args.session.now c.show.new.self (inl refl) refl refl c.in-Ok.ensures.room answers

pub returns-in-Err-clause-call : goal.returns-in-Err-clause-call
returns-in-Err-clause-call c =
    let answers = subst (Answers c.args.line.now c.args.session.now) (sym c.show.ensures.session) c.in-Ok.ensures.answered in
    line_answered c.args.session.now c.show.new.self (inr refl) refl refl c.in-Ok.ensures.room answers

pub returns-in-Err-TooManyAnswers-clause-call : goal.returns-in-Err-TooManyAnswers-clause-call
returns-in-Err-TooManyAnswers-clause-call c =
    let at = c.in-Err-TooManyAnswers in
    line_full c.args.session.now refl refl (c.answer.ensures.full (cc (at.is, at.field-0-is))) (ap Some at.ensures.unchanged)
