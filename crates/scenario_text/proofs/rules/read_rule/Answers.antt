use Rattle.scenario_text.proofs.CommonNames.{refl, ap, ◌∙◌, arith, left_some, array, object, rule_from}
use Rattle.scenario_text.proofs.ReadLoops.{opened}
use Rattle.scenario_text.proofs.rules.read_rule.Goals as goal

pub returns-in_ok-fields-in-Object-clause-rule : goal.returns-in_ok-fields-in-Object-clause-rule
returns-in_ok-fields-in-Object-clause-rule c =
    let was = c.in_ok-fields-in-Object.ensures.members in
    (object was.0, grind (arith, opened, was.1), c.rule.ensures ∙ ap rule_from was.2)

pub returns-in_ok-pass_items-in-Array-clause-rule : goal.returns-in_ok-pass_items-in-Array-clause-rule
returns-in_ok-pass_items-in-Array-clause-rule c =
    let was = left_some _ _ c.in_ok-pass_items-in-Array.ensures.value in
    (array was.0, grind (arith, opened, was.1), refl)
