use Rattle.scenario_text.proofs.CommonNames.{Ok, Err, sym, ap, ◌∙◌, arith, read, seen, IsStep, asked, numbered, step_of}
use Rattle.scenario_text.specs.OneStep.{value}
use Rattle.scenario_text.proofs.Answering.{answers_by}
use Rattle.scenario_text.proofs.one_step.StepReader.parse_step.Goals as goal

pub returns-in-Ok-Ok-clause-step : goal.returns-in-Ok-Ok-clause-step
returns-in-Ok-Ok-clause-step c =
    let good = c.in-Ok.ensures.cases in
    let was = c.in-Ok-Ok.ensures in
    answers_by asked (IsStep c.args.bytes.now) (Ok c.in-Ok-Ok.step) (numbered 1 (step_of was.0)) (ap (numbered 1) (ap (seen asked) (sym c.in-Ok-Ok.field-0-is) ∙ was.2)) (value was.0 (omega arith) (good.1, ap read (sym good.0) ∙ was.1))

pub returns-in-Ok-Err-clause-step : goal.returns-in-Ok-Err-clause-step
returns-in-Ok-Err-clause-step c =
    let good = c.in-Ok.ensures.cases in
    let was = c.in-Ok-Err.ensures in
    answers_by asked (IsStep c.args.bytes.now) (Err c.at.result) (numbered 1 (step_of was.0)) (ap Err c.at.ensures ∙ ap (numbered 1) (ap (seen asked) (sym c.in-Ok-Err.field-0-is) ∙ was.2)) (value was.0 (omega arith) (good.1, ap read (sym good.0) ∙ was.1))
