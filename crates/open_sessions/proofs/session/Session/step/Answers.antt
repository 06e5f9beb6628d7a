use Rattle.{std.proofs.Common.arith, open_sessions.proofs.AnswerLemmas.steps}
use Rattle.open_sessions.proofs.session.Session.step.Goals as goal

pub returns-clause-stepped : goal.returns-clause-stepped
returns-clause-stepped c =
    rw (← c.self.view_is) (steps c.args.user c.args.step.now _ c.make_step-reply.new.host c.make_step-reply.result c.slot-slot.result c.slot-slot.ensures.user c.make_step-reply.ensures
    c.slot-slot.ensures.place (rw c.self.told c.slot-slot.ensures.below))

pub returns-clause-room : goal.returns-clause-room
returns-clause-room c = rw (← c.self.view_is) (λ full. grind (arith, c.if-count.false, c.slot-slot.ensures.place, full))
