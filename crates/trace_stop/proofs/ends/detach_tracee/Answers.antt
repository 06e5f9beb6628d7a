use Rattle.trace_stop.proofs.CommonNames.{rules}
use Rattle.trace_stop.proofs.LeftAlone.{left_by}
use Rattle.trace_stop.proofs.ends.detach_tracee.Goals as goal

pub returns-clause-rows : goal.returns-clause-rows
returns-clause-rows c = search (rules, left_by)
