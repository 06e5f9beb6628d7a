use Rattle.trace_rows.specs.Stop.{detach}
use Rattle.trace_stop.proofs.CommonNames.{sym, ap, ◌∙◌, process_of-pid}
use Rattle.trace_stop.proofs.resuming.detach.Goals as goal

pub returns-in-Some-clause-rows : goal.returns-in-Some-clause-rows
returns-in-Some-clause-rows c =
    let rows = c.args.tables.now.rows in
    let number = process_of-pid c.args.pid c.in-Some.process rows.processes (sym c.process.ensures.row ∙ c.in-Some.is) in
    c.detach_process.ensures.rows ∙ ap (λ n. detach c.args.settings n c.args.pass rows) number
