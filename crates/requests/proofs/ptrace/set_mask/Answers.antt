use Rattle.requests.proofs.CommonNames.{refl, change_process-at, named-same, arith, nat_tests}
use Rattle.requests.proofs.ptrace.set_mask.Goals as goal

pub set_process-requires-clause-named : goal.set_process-requires-clause-named
set_process-requires-clause-named c = let p = c.args.process.now in named-same c.args.tables.now.rows p _ c.requires.at c.assert_invariant.ensures refl refl

pub returns : goal.returns
returns c = grind (arith, nat_tests, change_process-at c.args.process.now.pid (λ q. record q { mask = c.args.mask }) c.args.tables.now.rows c.args.process.now c.assert_invariant.ensures.rising c.requires.at refl)
