use Rattle.requests.proofs.HasLwpAfterChange.{acting_has, has-lwp_added}
use Rattle.requests.proofs.CommonNames.{arith, nat_tests}
use Rattle.requests.proofs.leave.make_lwp.Goals as goal

pub finish-requires : goal.finish-requires
finish-requires c = grind (arith, nat_tests, has-lwp_added c.args.p.now.uid c.born.result c.args.p.now.pid c.args.l.now.tid c.args.tables.now.rows (acting_has c.args.p.now c.args.l.now c.args.tables.now.rows c.requires))
