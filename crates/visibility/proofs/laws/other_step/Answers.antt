use Rattle.visibility.proofs.CommonNames.{reply_given}
use Rattle.visibility.proofs.Steps.{did, step_of_another}
use Rattle.visibility.proofs.laws.other_step.Goals as goal

pub returns-clause-step : goal.returns-clause-step
returns-clause-step g c = did c.step.ensures

pub returns-clause-view : goal.returns-clause-view
returns-clause-view g c = step_of_another c.args.user c.args.other c.args.step (reply_given c.step.result) c.args.host.now c.step.new.self
    c.get.ensures.user c.get-2.ensures.user c.requires.differ c.assert_invariant.ensures (did c.step.ensures)
