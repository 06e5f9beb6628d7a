use Rattle.sessions.proofs.Schedules as schedules
use Rattle.sessions.proofs.laws.every_schedule.Goals as goal

pub returns : goal.returns
returns g c = schedules.every_schedule _
