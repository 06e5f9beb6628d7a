use Rattle.std.proofs.Common.{rules}
use Rattle.trace_stop.proofs.LeafEnd.{end_killed, end_spared}
use Rattle.trace_stop.proofs.Descents.{end_sound}
use Rattle.trace_stop.proofs.ends.end.Goals as goal

pub returns-then-settings : goal.returns-then-settings
returns-then-settings c = search (rules, end_sound, end_killed c.args.settings c.args.tables.now.rows c.end_with_tracees.new.tables.rows c.args.pid c.args.status c.if-settings.true c.end_with_tracees.ensures)

pub returns-else-settings : goal.returns-else-settings
returns-else-settings c = search (rules, end_sound, end_spared c.args.settings c.args.tables.now.rows c.detach_tracees.new.tables.rows c.end_leaf.new.tables.rows c.args.pid c.args.status c.if-settings.false c.requires.live c.detach_tracees.ensures.rows c.end_leaf.ensures)
