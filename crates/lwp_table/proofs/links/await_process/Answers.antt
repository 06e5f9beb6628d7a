use Rattle.lwp_table.proofs.CommonNames.{arith, awaited, nat_tests, same_Some, Some, refl}
use Rattle.lwp_table.proofs.HeadLemmas.{had, changed}
use Rattle.lwp_table.proofs.links.await_process.Goals as goal

pub returns-then-waits_for-clause-ends : goal.returns-then-waits_for-clause-ends
returns-then-waits_for-clause-ends c q = grind (arith, nat_tests, changed c.args.heads.now c.head_place-place.result c.args.child c.head_place-place.ensures c.in-Some.ensures.unique (λ ends. ends) c.in-Some.ends.now c.in-Some.ends.now c.in-Some.ensures.value refl q)

pub returns-clause-ends : goal.returns-clause-ends
returns-clause-ends c = changed c.args.heads.now c.head_place-place.result c.args.child c.head_place-place.ensures c.in-Some.ensures.unique (awaited c.args.row.now.tid) c.in-Some.ends.now _ c.in-Some.ensures.value refl

pub returns-clause-alone : goal.returns-clause-alone
returns-clause-alone c ok s slot there is =
    let was = had c.args.heads.now c.head_place-place.result c.args.child c.head_place-place.ensures (Some c.in-Some.ends.now) c.in-Some.ensures.value in
    grind (arith, nat_tests, same_Some, was, is.is, is.waits, there, c.match-ends.branch, c.requires s slot there)
