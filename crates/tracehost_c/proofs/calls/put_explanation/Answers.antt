use Rattle.{std.proofs.Common.{refl}, scenario_text.specs.{OneStep.{IsStep}, Plan.{asked}}, open_sessions.proofs.AnswerLemmas.{told_fault}, tracehost_c.specs.Calls.{of_step, of_fault}}
use Rattle.tracehost_c.proofs.calls.put_explanation.Goals as goal

pub returns-in-Ok-clause-explained : goal.returns-in-Ok-clause-explained
returns-in-Ok-clause-explained c = λ answered. of_step (asked c.in-Ok.field-0) c.in-Ok.ensures.step refl refl

pub returns-in-Err-clause-explained : goal.returns-in-Err-clause-explained
returns-in-Err-clause-explained c = λ answered.
    let why = c.put_reasons.ensures.shown answered in
    of_fault c.in-Err.fault why.1 (told_fault asked (IsStep c.args.line.now) c.in-Err.fault why.0 c.in-Err.ensures.step) why.2 why.3
