use Rattle.visibility.proofs.CommonNames.{reply_given}
use Rattle.visibility.proofs.Steps.{did, both_steps}
use Rattle.visibility.proofs.laws.one_step.Goals as goal

pub returns : goal.returns
returns g c =
    let first = did c.step-reply.ensures in
    let second = rw c.requires.steps at (did c.step-other.ensures) in
    record {
      first = first;
      second = second;
      equal = both_steps c.args.user c.args.step (reply_given c.step-reply.result) (reply_given c.step-other.result) c.args.first.now c.args.second.now c.step-reply.new.self c.step-other.new.self
          c.get-number.ensures.user c.assert_invariant.ensures c.assert_invariant-2.ensures c.requires.seen first second;
    }
