use Rattle.visibility.proofs.CommonNames.{map, users_are_apart_in_a_sound_host, asked, reply_given}
use Rattle.visibility.proofs.Answered.{two_runs}
use Rattle.visibility.proofs.laws.two_lists.Goals as goal

pub returns-clause-equal : goal.returns-clause-equal
returns-clause-equal g c =
    let done = c.in_ok-told.ensures in
    λ asks. two_runs (map asked c.args.steps.items) (map asked c.args.others.items) (map reply_given c.in_ok-told.told.items) (map reply_given c.in_ok-told.said.items)
    c.args.first.now c.args.second.now c.both_lists.new.first c.both_lists.new.second c.args.user c.get-number.ensures.user done.users.0 done.users.1
    (users_are_apart_in_a_sound_host c.args.first.now c.assert_invariant.ensures) (users_are_apart_in_a_sound_host c.args.second.now c.assert_invariant-2.ensures) done.first done.second c.requires.seen asks
