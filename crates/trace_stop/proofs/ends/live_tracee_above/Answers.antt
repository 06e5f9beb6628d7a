use Rattle.std.proofs.Common.{◌≡◌, Some, rules}
use Rattle.proc_table.specs.Walks.{next_tracee}
use Rattle.trace_stop.proofs.Descents.{walk_found}
use Rattle.trace_stop.proofs.ends.live_tracee_above.Goals as goal

pub returns-then-is_live : goal.returns-then-is_live
returns-then-is_live c =
    let at : next_tracee c.args.pid c.loop-tracee.after c.args.tables.now.rows.processes ≡ Some c.in-Some.tracee = cc in
    walk_found c.args.pid c.loop-tracee.after c.args.tables.now.rows c.next_tracee.ensures.kept c.in-Some.tracee at (search rules)
