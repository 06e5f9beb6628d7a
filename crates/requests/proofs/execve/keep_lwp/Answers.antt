use Rattle.requests.proofs.CommonNames.{sym, ◌∙◌, arith, nat_tests}
use Rattle.requests.proofs.RunProgram.{other_there, less_without}
use Rattle.requests.proofs.execve.keep_lwp.Goals as goal

pub loop-other-smaller : goal.loop-other-smaller
loop-other-smaller c = grind (arith, nat_tests, less_without c.in-Some.other.tid c.in-Some.other c.loop-other.tables.rows.lwps (other_there c.args.pid c.args.tid c.in-Some.other c.loop-other.tables.rows c.other_lwp.ensures.kept.differ (sym c.other_lwp.ensures.other ∙ c.in-Some.is)))
