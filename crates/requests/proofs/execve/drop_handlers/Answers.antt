use Rattle.requests.proofs.CommonNames.{refl, sym, ◌∙◌, after_exec, process_of-pid, change_process-at, process_there, named-same, arith, nat_tests}
use Rattle.requests.proofs.HasLwpAfterChange.{row_itself}
use Rattle.requests.proofs.execve.drop_handlers.Goals as goal

pub set_process-requires : goal.set_process-requires
set_process-requires c = grind (arith, nat_tests, process_there c.args.tables.now.rows c.unwrap-row.result c.unwrap-row.result (row_itself c.args.pid c.unwrap-row.result c.args.tables.now.rows.processes (sym c.process.ensures.row ∙ c.unwrap-row.ensures)) refl, named-same c.args.tables.now.rows c.unwrap-row.result (record c.unwrap-row.result { dispositions = c.after_exec.result }) (row_itself c.args.pid c.unwrap-row.result c.args.tables.now.rows.processes (sym c.process.ensures.row ∙ c.unwrap-row.ensures)) c.process.ensures.kept refl refl)

pub returns : goal.returns
returns c = grind (arith, nat_tests, change_process-at c.args.pid (λ q. record q { dispositions = after_exec q.dispositions }) c.args.tables.now.rows c.unwrap-row.result c.process.ensures.kept.rising (sym c.process.ensures.row ∙ c.unwrap-row.ensures) (process_of-pid c.args.pid c.unwrap-row.result c.args.tables.now.rows.processes (sym c.process.ensures.row ∙ c.unwrap-row.ensures)))
