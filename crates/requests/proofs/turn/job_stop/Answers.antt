use Rattle.requests.proofs.CommonNames.{◌≡◌, false, Some, refl, sym, ◌∙◌, process_of, process_of-pid, change_process-at, process_there, named-same, State, arith, nat_tests}
use Rattle.requests.proofs.HasLwpAfterChange.{row_itself}
use Rattle.requests.proofs.turn.job_stop.Goals as goal

pub set_process-requires : goal.set_process-requires
set_process-requires c =
    let rows = c.args.tables.now.rows in
    let row = c.unwrap-row.result in
    let at : process_of row.pid rows.processes ≡ Some row = row_itself c.args.p.now.pid row rows.processes (sym c.process.ensures.row ∙ c.unwrap-row.ensures) in
    record {
      there = process_there rows row row at refl;
      named = named-same rows row (record row { state = State.Job c.args.signal false; continued = false }) at c.process.ensures.kept refl refl;
    }

pub returns : goal.returns
returns c = grind (arith, nat_tests, change_process-at c.args.p.now.pid (λ q. record q { state = State.Job c.args.signal false; continued = false }) c.args.tables.now.rows c.unwrap-row.result c.process.ensures.kept.rising (sym c.process.ensures.row ∙ c.unwrap-row.ensures) (process_of-pid c.args.p.now.pid c.unwrap-row.result c.args.tables.now.rows.processes (sym c.process.ensures.row ∙ c.unwrap-row.ensures)))
