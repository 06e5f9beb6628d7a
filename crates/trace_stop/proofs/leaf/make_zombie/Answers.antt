use Rattle.trace_stop.proofs.CommonNames.{◌≡◌, Some, rules, found_row, named-same, process_there, own_row}
use Rattle.proc_table.specs.Processes.{process_of}
use Rattle.trace_stop.proofs.Taken.{unnamed, left_lwps}
use Rattle.trace_stop.proofs.leaf.make_zombie.Goals as goal

pub remove_process-requires : goal.remove_process-requires
remove_process-requires c = let at : process_of c.args.pid c.args.tables.now.rows.processes ≡ Some c.in-Some.process = cc in search (rules, found_row, unnamed, left_lwps)

pub set_process-requires : goal.set_process-requires
set_process-requires c =
    let at : process_of c.args.pid c.args.tables.now.rows.processes ≡ Some c.in-Some.process = cc in
    let own = own_row c.args.pid c.in-Some.process c.args.tables.now.rows.processes at in
    search (rules, process_there, named-same)
