use Rattle.trace_stop.proofs.CommonNames.{◌≡◌, false, rules, found_row}
use Rattle.proc_table.specs.Processes.{is_live}
use Rattle.trace_stop.proofs.Taken.{child_is_named, child_step, zombie_tracees, zombie_children, zombie_lwps}
use Rattle.trace_stop.proofs.leaf.orphan_child.Goals as goal

pub set_process-requires-clause-named : goal.set_process-requires-clause-named
set_process-requires-clause-named c = search (rules, child_is_named)

pub remove_process-requires : goal.remove_process-requires
remove_process-requires c = let ended : is_live c.args.child.now ≡ false = search rules in search (rules, found_row, zombie_tracees, zombie_children, zombie_lwps)

pub returns-then-stays : goal.returns-then-stays
returns-then-stays c =
    let d = child_step c.args.pid c.args.tables.now.rows c.set_process.new.self.rows c.requires.kept c.requires.leaving c.args.child.now c.requires.there c.requires.untraced c.requires.child (search rules) in
    record { leaving = d.0.leaving; untraced = d.1; fewer = d.0.fewer; same = d.0.same }

pub returns-else-stays : goal.returns-else-stays
returns-else-stays c =
    let d = child_step c.args.pid c.args.tables.now.rows c.remove_process.new.self.rows c.requires.kept c.requires.leaving c.args.child.now c.requires.there c.requires.untraced c.requires.child (search rules) in
    record { leaving = d.0.leaving; untraced = d.1; fewer = d.0.fewer; same = d.0.same }
