use Rattle.requests.proofs.CommonNames.{InCall, refl, arith, nat_tests}
use Rattle.requests.proofs.HasLwpAfterChange.{acting_has, has-lwp_changed}
use Rattle.requests.proofs.acts.enter.Goals as goal

pub stop_with-requires : goal.stop_with-requires
stop_with-requires c = grind (arith, nat_tests, has-lwp_changed c.args.l.now.tid (λ k. record k { mode = InCall c.args.call }) (λ k. refl) (λ k. refl) c.args.p.now.pid c.args.l.now.tid c.args.tables.now.rows (acting_has c.args.p.now c.args.l.now c.args.tables.now.rows c.requires))
