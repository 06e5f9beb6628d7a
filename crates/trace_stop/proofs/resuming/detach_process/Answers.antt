use Rattle.trace_rows.specs.Stop.{ends_process, resume}
use Rattle.trace_stop.proofs.CommonNames.{sym, ap, ◌∙◌}
use Rattle.trace_stop.proofs.Resumed.{detach_ends}
use Rattle.trace_stop.proofs.resuming.detach_process.Goals as goal

pub returns-then-ends-clause-rows : goal.returns-then-ends-clause-rows
returns-then-ends-clause-rows c =
    let rows = c.args.tables.now.rows in
    let pid = c.args.process.now.pid in
    let ends = ap (ends_process c.args.pass) c.requires.at ∙ (sym c.ends.ensures ∙ c.if-ends.true) in
    c.resume_process.ensures.rows ∙ (ap (λ how. resume c.args.settings how pid rows) c.with_signal.ensures ∙ sym (detach_ends c.args.settings pid c.args.pass rows ends))

pub returns-else-ends-clause-rows : goal.returns-else-ends-clause-rows
returns-else-ends-clause-rows c = rw (ap (ends_process c.args.pass) c.requires.at ∙ (sym c.ends.ensures ∙ c.if-ends.false)) (rw c.empty.ensures at c.detach_row.ensures.rows)
