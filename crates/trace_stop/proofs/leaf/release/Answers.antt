use Rattle.trace_stop.proofs.CommonNames.{rules, ◌==◌, released}
use Rattle.trace_stop.proofs.LwpEdits.{released-tid, released-pid, released-others}
use Rattle.trace_stop.proofs.leaf.release.Goals as goal

pub edit_waiting_lwps-requires-clause-change : goal.edit_waiting_lwps-requires-clause-change
edit_waiting_lwps-requires-clause-change c = (released (λ n. n == c.args.child) c.args.process.now, search (rules, released-tid, released-pid), released-others c.args.child c.args.process.now)

pub returns : goal.returns
returns c = c.edit_waiting_lwps.ensures.rows (released (λ n. n == c.args.child) c.args.process.now) (λ l k there returned. search rules) (released-others c.args.child c.args.process.now)
