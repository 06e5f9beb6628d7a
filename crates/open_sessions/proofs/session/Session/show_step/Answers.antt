use Rattle.std.proofs.Common.{◌≡◌, ◌∙◌, refl}
use Rattle.step_types.specs.Plain.{UserStep}
use Rattle.open_sessions.{specs.StepLines.{HasLine, line_of}, proofs.AnswerLemmas.shown_line}
use Rattle.open_sessions.proofs.session.Session.show_step.Goals as goal

pub returns-clause-shown : goal.returns-clause-shown
returns-clause-shown c =
    let asked : UserStep = record { uid = c.in-Some.user; step = c.in-Some.step } in
    let has : HasLine c.in-Some.step = c.if-not-has_line.ensures.line refl in
    let line : c.as_slice.result.now ≡ line_of asked = c.as_slice.ensures.value ∙ c.in_ok-line.ensures.line in
    rw (← c.self.view_is, c.in-Some.is)
    (c.as_slice.result.now, shown_line asked c.as_slice.result.now c.in_ok-line.ensures.user has line, c.copy_front.ensures.shown, c.copy_front.ensures.length)
