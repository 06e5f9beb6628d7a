use Rattle.requests.proofs.CommonNames.{refl, without, bit, change_process-at, change_lwp-at, arith, nat_tests}
use Rattle.requests.proofs.turn.drop_signal.Goals as goal

pub returns-then-contains : goal.returns-then-contains
returns-then-contains c = grind (arith, nat_tests, change_lwp-at c.args.l.now.tid (λ k. record k { pending = without k.pending (bit c.args.signal) }) c.args.tables.now.rows c.args.l.now c.assert_invariant.ensures.differ c.requires.lwp refl)

pub returns-else-contains : goal.returns-else-contains
returns-else-contains c =
    let rows = c.args.tables.now.rows in
    let p = c.args.p.now in
    let rising = c.assert_invariant.ensures.rising in
    grind (arith, nat_tests, change_process-at p.pid (λ q. record q { pending = without q.pending (bit c.args.signal) }) rows p rising c.requires.process refl, change_process-at p.pid (λ q. record q { pending = c.without-else-contains.result }) rows p rising c.requires.process refl)
