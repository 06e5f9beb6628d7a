use Rattle.trace_rows.proofs.CommonNames.{sym, rules, refl, named-same}
use Rattle.trace_rows.proofs.RunOn.{resumed-is}
use Rattle.trace_rows.proofs.CommonLemmas.{reporter_there}
use Rattle.trace_rows.proofs.tracing.resume_row.Goals as goal

pub set_process-requires-clause-named : goal.set_process-requires-clause-named
set_process-requires-clause-named c = named-same c.args.tables.now.rows c.args.process.now _ c.requires.at c.assert_invariant.ensures refl refl

pub drop_stop-requires : goal.drop_stop-requires
drop_stop-requires c = rw c.set_process.ensures.rows (reporter_there c.args.process.now.pid c.args.tables.now.rows c.args.process.now c.requires.stands c.requires.at c.reporting.result (sym c.reporting.ensures))

pub returns : goal.returns
returns c = search (rules, resumed-is)
