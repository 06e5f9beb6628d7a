use Rattle.scenario_text.proofs.CommonNames.{refl, subst, arith, left_some, array, IsScalar, Opens}
use Rattle.scenario_text.proofs.{Plans.no_object, ReadLoops.opened}
use Rattle.scenario_text.proofs.parsing.read_scenario.Goals as goal

pub returns-in_ok-pass_items-in-Array-clause-scenario : goal.returns-in_ok-pass_items-in-Array-clause-scenario
returns-in_ok-pass_items-in-Array-clause-scenario c =
    let was = left_some _ _ c.in_ok-pass_items-in-Array.ensures.value in
    (array was.0, grind (arith, opened, was.1), no_object (array was.0) refl)

pub returns-in-Scalar-clause-scenario : goal.returns-in-Scalar-clause-scenario
returns-in-Scalar-clause-scenario c =
    let s : IsScalar c.in-Scalar.field-0 c.args.reader.now c.open_value.new.reader = subst (λ o. Opens o c.args.reader.now c.open_value.new.reader) c.in-Scalar.is c.in_ok-opening.ensures.opened in
    (s.value, s.read 127, no_object s.value s.no_object)
