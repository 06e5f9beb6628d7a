use Rattle.std.proofs.Common.{◌∙◌}
use Rattle.scenario.proofs.replying.replies_by_user.Goals as goal

pub returns-clause-replies : goal.returns-clause-replies
returns-clause-replies g c = c.in_ok-all.ensures.replies ∙ (c.in_ok-transcripts.ensures.told c.in_ok-all.ensures.made).0

pub returns-clause-users : goal.returns-clause-users
returns-clause-users g c = c.in_ok-all.ensures.users ∙ (c.in_ok-transcripts.ensures.told c.in_ok-all.ensures.made).1
