use Rattle.scenario_text.proofs.CommonNames.{refl, arith, left_some, object}
use Rattle.scenario_text.proofs.ReadLoops.{opened}
use Rattle.scenario_text.proofs.arrays.read_set.Goals as goal

pub returns-in_ok-pass_members-in-Object-clause-set : goal.returns-in_ok-pass_members-in-Object-clause-set
returns-in_ok-pass_members-in-Object-clause-set g c =
    let was = left_some _ _ c.in_ok-pass_members-in-Object.ensures.value in
    (object was.0, grind (arith, opened, was.1), refl)
