use Rattle.requests.proofs.CommonNames.{InCall, sym, refl, ◌∙◌, change_lwp-at}
use Rattle.requests.proofs.acts.enter_call.Goals as goal

pub returns : goal.returns
returns c = record { rows = c.set_lwp.ensures.rows ∙ sym (change_lwp-at c.args.l.now.tid (λ k. record k { mode = InCall c.args.call }) c.args.tables.now.rows c.args.l.now c.assert_invariant.ensures.differ c.requires refl) }
