use Rattle.visibility.proofs.CommonNames.{reply_given}
use Rattle.visibility.proofs.Steps.{did, unseen_numbers}
use Rattle.visibility.proofs.laws.foreign_number.Goals as goal

pub returns-clause-first : goal.returns-clause-first
returns-clause-first g c = did c.step-reply.ensures

pub returns-clause-second : goal.returns-clause-second
returns-clause-second g c = did c.step-answer.ensures

pub returns-clause-equal : goal.returns-clause-equal
returns-clause-equal g c = unseen_numbers c.args.user c.args.step c.args.other (reply_given c.step-reply.result) (reply_given c.step-answer.result) c.args.first.now c.args.second.now c.step-reply.new.self c.step-answer.new.self
    c.get-number.ensures.user c.assert_invariant.ensures c.requires.hosts c.requires.steps (did c.step-reply.ensures) (did c.step-answer.ensures)
