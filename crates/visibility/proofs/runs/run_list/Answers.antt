use Rattle.visibility.proofs.CommonNames.{map, users_are_apart_in_a_sound_host, asked, reply_given}
use Rattle.visibility.proofs.Answered.{runs_are_private}
use Rattle.visibility.proofs.runs.run_list.Goals as goal

pub returns-clause-own : goal.returns-clause-own
returns-clause-own g c = runs_are_private (map asked c.args.steps.items) (map reply_given c.run_into.result.items) c.args.host.now c.run_into.new.host c.run_into.ensures.users (users_are_apart_in_a_sound_host c.args.host.now c.assert_invariant.ensures) c.run_into.ensures.ran
