use Rattle.requests.proofs.HasLwpAfterChange.{acting_has}
use Rattle.requests.proofs.leave.leave.Goals as goal

pub finish-requires : goal.finish-requires
finish-requires c = acting_has c.args.p.now c.args.l.now c.args.tables.now.rows c.requires.acting
