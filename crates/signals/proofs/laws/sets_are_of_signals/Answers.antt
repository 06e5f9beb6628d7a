use Rattle.signals.proofs.Members.{members_after}
use Rattle.signals.proofs.laws.sets_are_of_signals.Goals as goal

pub returns-clause-members : goal.returns-clause-members
returns-clause-members c = members_after
