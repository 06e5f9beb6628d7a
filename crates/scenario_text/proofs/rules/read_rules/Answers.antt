use Rattle.scenario_text.proofs.CommonNames.{refl, arith, left_some, object}
use Rattle.scenario_text.proofs.ReadLoops.{opened}
use Rattle.scenario_text.proofs.rules.read_rules.Goals as goal

pub returns-in_ok-pass_members-in-Object-clause-rules : goal.returns-in_ok-pass_members-in-Object-clause-rules
returns-in_ok-pass_members-in-Object-clause-rules c =
    let was = left_some _ _ c.in_ok-pass_members-in-Object.ensures.value in
    (object was.0, grind (arith, opened, was.1), refl)
