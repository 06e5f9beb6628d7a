use Rattle.std.proofs.Common.{ap}
use Rattle.requests.proofs.CommonNames.{◌≡◌, is_some, some_and, lwp_of}
use Rattle.requests.proofs.stopping.finish.Goals as goal

pub set_mode-requires : goal.set_mode-requires
set_mode-requires c = ap is_some (some_and (λ l. l.pid ≡ c.args.p.now.pid) (lwp_of c.args.l.now.tid c.args.tables.now.rows.lwps) c.requires.lwp).1

pub stop_or-requires : goal.stop_or-requires
stop_or-requires c = c.set_mode.ensures.there c.args.p.now.pid c.requires
