use Rattle.trace_rows.proofs.CommonNames.{sym}
use Rattle.proc_table.proofs.Changes.{map_lwps-none}
use Rattle.trace_rows.proofs.tracing.step_lwps.Goals as goal

pub returns-in-Unchanged : goal.returns-in-Unchanged
returns-in-Unchanged c = rw c.in-Unchanged.is (sym (map_lwps-none c.args.pid c.args.tables.now.rows))
