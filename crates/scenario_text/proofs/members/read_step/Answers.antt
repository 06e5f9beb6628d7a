use Rattle.scenario_text.proofs.CommonNames.{refl, ap, ◌∙◌, arith, left_some, array, object, step_from}
use Rattle.scenario_text.proofs.ReadLoops.{opened}
use Rattle.scenario_text.proofs.members.read_step.Goals as goal

pub returns-in_ok-read_fields-in-Object-clause-step : goal.returns-in_ok-read_fields-in-Object-clause-step
returns-in_ok-read_fields-in-Object-clause-step c =
    let was = c.in_ok-read_fields-in-Object.ensures.members in
    (object was.0, grind (arith, opened, was.1), c.step_from.ensures ∙ ap step_from was.2)

pub returns-in_ok-pass_items-in-Array-clause-step : goal.returns-in_ok-pass_items-in-Array-clause-step
returns-in_ok-pass_items-in-Array-clause-step c =
    let was = left_some _ _ c.in_ok-pass_items-in-Array.ensures.value in
    (array was.0, grind (arith, opened, was.1), refl)
