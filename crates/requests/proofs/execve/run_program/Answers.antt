use Rattle.requests.proofs.CommonNames.{refl, process_of, rules, arith, nat_tests}
use Rattle.requests.proofs.HasLwpAfterChange.{acting_has, has-settled}
use Rattle.requests.proofs.RunProgram.{exec_done, has-dropped}
use Rattle.requests.proofs.execve.run_program.Goals as goal

pub set_mode-requires : goal.set_mode-requires
set_mode-requires c = rw c.requires.acting.lwp refl

pub keep_lwp-requires : goal.keep_lwp-requires
keep_lwp-requires c = c.set_mode.ensures.there c.args.p.now.pid (acting_has c.args.p.now c.args.l.now c.args.tables.now.rows c.requires.acting)

pub settle-requires : goal.settle-requires
settle-requires c = grind (arith, nat_tests, has-dropped (process_of c.args.p.now.parent c.keep_lwp.new.tables.rows.processes) c.args.p.now.pid c.args.l.now.tid c.keep_lwp.new.tables.rows c.release_parent.new.tables.rows c.drop_handlers.new.tables.rows c.keep_lwp.ensures.there c.release_parent.ensures c.drop_handlers.ensures)

pub returns-clause-rows : goal.returns-clause-rows
returns-clause-rows c = search (rules, exec_done)

pub returns-clause-there : goal.returns-clause-there
returns-clause-there c = grind (arith, nat_tests, has-settled c.args.p.now.pid c.args.p.now.pid c.args.l.now.tid c.drop_handlers.new.tables.rows (has-dropped (process_of c.args.p.now.parent c.keep_lwp.new.tables.rows.processes) c.args.p.now.pid c.args.l.now.tid c.keep_lwp.new.tables.rows c.release_parent.new.tables.rows c.drop_handlers.new.tables.rows c.keep_lwp.ensures.there c.release_parent.ensures c.drop_handlers.ensures))
