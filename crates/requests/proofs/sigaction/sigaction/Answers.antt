use Rattle.requests.proofs.CommonNames.{sym, ◌∙◌, refl, named-same, arith, nat_tests}
use Rattle.requests.proofs.DisposedRows.{disposed_rows}
use Rattle.requests.proofs.sigaction.sigaction.Goals as goal

pub set_process-requires-clause-named : goal.set_process-requires-clause-named
set_process-requires-clause-named c = rw c.disposed.ensures (named-same c.args.tables.now.rows c.args.caller.now (record c.args.caller.now { dispositions = c.in-Some.dispositions }) c.requires.caller c.assert_invariant.ensures refl refl)

pub returns : goal.returns
returns c = grind (arith, nat_tests, disposed_rows c.args.tables.now.rows c.set_process.new.self.rows c.args.caller.now c.disposed.result c.requires.caller c.args.sig c.args.disposition c.in-Some.dispositions c.settle.new.tables.rows c.assert_invariant.ensures.rising (sym c.in-Some.is ∙ c.with_disposition.ensures) c.disposed.ensures c.set_process.ensures.rows c.settle.ensures.rows)
