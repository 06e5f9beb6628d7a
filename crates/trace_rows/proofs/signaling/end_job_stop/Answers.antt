use Rattle.trace_rows.proofs.CommonNames.{◌≡◌, Some, true, refl, sym, ◌∙◌, Run, process_of, process_of-pid, change_process-at, process_there, named-same, arith, nat_tests}
use Rattle.trace_rows.proofs.CommonLemmas.{own_row}
use Rattle.trace_rows.proofs.signaling.end_job_stop.Goals as goal

pub set_process-requires : goal.set_process-requires
set_process-requires c =
    let rows = c.args.tables.now.rows in
    let p = c.unwrap-p.result in
    let own : process_of p.pid rows.processes ≡ Some p = own_row c.args.pid p rows.processes (sym c.process.ensures.row ∙ c.unwrap-p.ensures) in
    grind (arith, nat_tests, process_there rows p p own refl, named-same rows p (record p { state = Run; continued = true; pending = c.args.pending }) own c.process.ensures.kept refl refl)

pub returns : goal.returns
returns c =
    let rows = c.args.tables.now.rows in
    let pid = c.args.pid in
    let p = c.unwrap-p.result in
    let at : process_of pid rows.processes ≡ Some p = sym c.process.ensures.row ∙ c.unwrap-p.ensures in
    grind (arith, nat_tests, change_process-at pid (λ q. record q { state = Run; continued = true; pending = c.args.pending }) rows p c.process.ensures.kept.rising at (process_of-pid pid p rows.processes at))
