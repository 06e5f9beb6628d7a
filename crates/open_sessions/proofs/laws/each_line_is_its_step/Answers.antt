use Rattle.open_sessions.proofs.LineLaw.{line_is_step}
use Rattle.open_sessions.proofs.laws.each_line_is_its_step.Goals as goal

pub returns : goal.returns
returns c = line_is_step
