use Rattle.lwp_table.proofs.CommonNames.{arith, marked, refl}
use Rattle.lwp_table.proofs.HeadLemmas.{changed, unchanged}
use Rattle.lwp_table.proofs.links.mark.Goals as goal

pub returns-then-is_some-clause-ends : goal.returns-then-is_some-clause-ends
returns-then-is_some-clause-ends c = changed c.args.heads.now c.head_place-place.result c.args.pid c.head_place-place.ensures c.in-Some.ensures.unique (marked c.args.marks) c.in-Some.ends.now _ c.in-Some.ensures.value (grind (arith, c.is_some.ensures, c.if-is_some.true))

pub returns-else-is_some-clause-ends : goal.returns-else-is_some-clause-ends
returns-else-is_some-clause-ends c = changed c.args.heads.now c.head_place-place.result c.args.pid c.head_place-place.ensures c.in-Some.ensures.unique (marked c.args.marks) c.in-Some.ends.now _ c.in-Some.ensures.value (grind (arith, c.is_some.ensures, c.if-is_some.false))

pub returns-in_default-clause-ends : goal.returns-in_default-clause-ends
returns-in_default-clause-ends c = unchanged c.args.heads.now c.head_place-place.result c.args.pid c.head_place-place.ensures c.in_default.ensures.value (marked c.args.marks) refl
