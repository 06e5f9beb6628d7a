use Rattle.sessions.proofs.Schedules as schedules
use Rattle.sessions.proofs.laws.alike_journals.Goals as goal

pub returns : goal.returns
returns c = schedules.alike_journals
