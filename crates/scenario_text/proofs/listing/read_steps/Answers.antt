use Rattle.scenario_text.proofs.CommonNames.{refl, arith, left_some, array, object}
use Rattle.scenario_text.proofs.ReadLoops.{opened}
use Rattle.scenario_text.proofs.listing.read_steps.Goals as goal

pub returns-in_ok-list-in-Array-clause-steps : goal.returns-in_ok-list-in-Array-clause-steps
returns-in_ok-list-in-Array-clause-steps c =
    let was = c.in_ok-list-in-Array.ensures.list in
    (array was.0, grind (arith, opened, was.1), (was.0, refl, was.2))

pub returns-in_ok-pass_members-in-Object-clause-steps : goal.returns-in_ok-pass_members-in-Object-clause-steps
returns-in_ok-pass_members-in-Object-clause-steps c =
    let was = left_some _ _ c.in_ok-pass_members-in-Object.ensures.value in
    (object was.0, grind (arith, opened, was.1), refl)
