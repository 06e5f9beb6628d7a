use Rattle.host_lock.proofs.CommonNames.{refl, sym, ◌∙◌, length, eqb-true}
use Rattle.host_lock.proofs.host.SharedHost.open_for.Goals as goal

pub returns-then-is_empty-clause-refuses : goal.returns-then-is_empty-clause-refuses
returns-then-is_empty-clause-refuses g c = (refl, eqb-true (length c.args.users.now) 0 (sym c.is_empty.ensures ∙ c.if-is_empty.true))
