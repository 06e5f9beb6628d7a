use Rattle.{scenario_text.specs.{OneStep.IsStep, Plan.asked}}
use Rattle.open_sessions.proofs.{AnswerLemmas.{answers, refuses, told_fault, on_ok_so}, LineLemmas.{room_for, room_for_refused}}
use Rattle.open_sessions.proofs.session.Session.answer.Goals as goal

pub returns-in-Ok-clause-answered : goal.returns-in-Ok-clause-answered
returns-in-Ok-clause-answered c =
    rw (← c.self.view_is) (on_ok_so c.step.result _ _ (answers _ (asked c.in-Ok.asked) _ _ c.in-Ok.ensures.step) c.step.ensures.stepped)

pub returns-in-Err-clause-answered : goal.returns-in-Err-clause-answered
returns-in-Err-clause-answered c =
    rw (← c.self.view_is)
    (on_ok_so c.refuse.result _ _ (λ p. refuses _ _ _ _ (told_fault asked (IsStep c.args.line.now) c.in-Err.fault p.0 c.in-Err.ensures.step) p.1) c.refuse.ensures.refused)

pub returns-in-Ok-clause-room : goal.returns-in-Ok-clause-room
returns-in-Ok-clause-room c =
    rw (← c.self.view_is) (on_ok_so c.step.result _ _ (room_for _ (asked c.in-Ok.asked) _ c.in-Ok.ensures.step) c.step.ensures.room)

pub returns-in-Err-clause-room : goal.returns-in-Err-clause-room
returns-in-Err-clause-room c =
    rw (← c.self.view_is)
    (on_ok_so c.refuse.result _ _ (λ p. room_for_refused _ _ _ (told_fault asked (IsStep c.args.line.now) c.in-Err.fault p.0 c.in-Err.ensures.step)) c.refuse.ensures.refused)
