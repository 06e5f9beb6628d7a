use Rattle.trace_rows.specs.{Detach.{signal_alone}, Stop.{resume}}
use Rattle.trace_stop.proofs.CommonNames.{sym, ap, ◌∙◌, process_of-pid}
use Rattle.trace_stop.proofs.resuming.resume.Goals as goal

pub returns-in-Some-clause-rows : goal.returns-in-Some-clause-rows
returns-in-Some-clause-rows c =
    let rows = c.args.tables.now.rows in
    let number = process_of-pid c.args.pid c.in-Some.process rows.processes (sym c.process.ensures.row ∙ c.in-Some.is) in
    c.resume_process.ensures.rows ∙ (ap (λ how. resume c.args.settings how c.in-Some.process.pid rows) c.with_signal.ensures ∙ ap (λ n. resume c.args.settings (signal_alone c.args.pass) n rows) number)
