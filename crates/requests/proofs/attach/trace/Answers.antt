use Rattle.requests.proofs.CommonNames.{refl, change_process-at, traced_by, arith, nat_tests}
use Rattle.requests.proofs.attach.trace.Goals as goal

pub returns : goal.returns
returns c = grind (arith, nat_tests, change_process-at c.args.process.now.pid (traced_by c.args.tracer) c.args.tables.now.rows c.args.process.now c.assert_invariant.ensures.rising c.requires.at refl)
