use Rattle.requests.proofs.CommonNames.{arith, nat_tests}
use Rattle.proc_table.proofs.LwpWalk.{first-found}
use Rattle.requests.proofs.attach.stop_first.Goals as goal

pub stop-requires-clause-lwp : goal.stop-requires-clause-lwp
stop-requires-clause-lwp c = grind (arith, nat_tests, first-found c.args.pid c.args.tables.now.rows.lwps c.first_lwp.ensures.kept.differ)
