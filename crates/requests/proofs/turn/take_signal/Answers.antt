use Rattle.requests.proofs.CommonNames.{sym, subst, HasLwp, arith, nat_tests}
use Rattle.requests.proofs.SoundAfterSignal.{taken_alike}
use Rattle.requests.proofs.HasLwpAfterChange.{acting_from, taken_there, taken_live}
use Rattle.requests.proofs.turn.take_signal.Goals as goal

pub stop_with-requires : goal.stop_with-requires
stop_with-requires c = subst (HasLwp c.args.p.now.pid c.args.l.now.tid) (sym c.drop_signal.ensures) (taken_there c.args.signal c.args.p.now c.args.l.now c.args.tables.now.rows c.requires.acting)

pub take_untraced-requires : goal.take_untraced-requires
take_untraced-requires c = grind (arith, nat_tests, taken_alike c.args.tables.now.rows c.args.p.now c.args.l.now (acting_from c.args.p.now c.args.l.now c.args.tables.now.rows c.requires.sound c.requires.acting c.requires.runs) c.args.signal, taken_live c.args.signal c.args.p.now c.args.l.now c.args.tables.now.rows (acting_from c.args.p.now c.args.l.now c.args.tables.now.rows c.requires.sound c.requires.acting c.requires.runs))
