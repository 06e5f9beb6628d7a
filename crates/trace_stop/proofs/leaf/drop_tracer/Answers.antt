use Rattle.trace_stop.proofs.CommonNames.{rules, found_row}
use Rattle.trace_stop.proofs.Taken.{orphan_of, tracee_ended, tracee_out, tracee_named, tracee_told, zombie_tracees, zombie_children, zombie_lwps}
use Rattle.trace_stop.proofs.leaf.drop_tracer.Goals as goal

pub remove_process-requires : goal.remove_process-requires
remove_process-requires c = search (rules, found_row, zombie_tracees, zombie_children, zombie_lwps, tracee_ended)

pub returns-in_default : goal.returns-in_default
returns-in_default c =
    let d = tracee_out c.args.pid c.args.tables.now.rows c.remove_process.new.self.rows c.requires.kept c.requires.leaving c.args.zombie.now c.requires.there c.requires.traced (search rules) c.remove_process.ensures.rows in
    record { leaving = d.leaving; fewer = d.fewer; same = d.same }

pub set_process-requires-clause-named : goal.set_process-requires-clause-named
set_process-requires-clause-named c = search (rules, orphan_of, tracee_named)

pub returns : goal.returns
returns c =
    let d = tracee_told c.args.pid c.args.tables.now.rows c.post_sigchld.new.tables.rows c.requires.kept c.requires.leaving c.args.zombie.now c.requires.there c.requires.traced c.in-Some.parent (search rules) (search rules) in
    record { leaving = d.leaving; fewer = d.fewer; same = d.same }
