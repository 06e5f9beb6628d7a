use Rattle.requests.proofs.CommonNames.{refl, maskable, change_lwp-at, arith, nat_tests}
use Rattle.requests.proofs.acts.block.Goals as goal

pub returns : goal.returns
returns c = grind (arith, nat_tests, change_lwp-at c.args.l.now.tid (λ k. record k { blocked = maskable c.args.set }) c.args.tables.now.rows c.args.l.now c.assert_invariant.ensures.differ c.requires refl)
