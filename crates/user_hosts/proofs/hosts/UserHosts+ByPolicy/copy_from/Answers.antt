use Rattle.requests.proofs.CommonNames.{sym, ap, ◌∙◌, empty}
use Rattle.user_hosts.proofs.MadeLemmas.{kept_at_first}
use Rattle.user_hosts.proofs.hosts.UserHosts+ByPolicy.copy_from.Goals as goal

pub invariant_of-self : goal.invariant_of-self
invariant_of-self g c = rw (c.in-Ok.ensures.done, c.same-self-inside.ensures) c.source.invariant

pub returns-in-Ok : goal.returns-in-Ok
returns-in-Ok g c = record { done = rw (c.in-Ok.ensures.done, c.same-self-inside.ensures) c.source.view_is; refused = tt }

pub invariant_of-self-in-Err : goal.invariant_of-self-in-Err
invariant_of-self-in-Err g c = rw (c.clear.ensures, c.nothing-self-inside.ensures) (kept_at_first c.copy_from.new.self.settings)

pub returns-in-Err : goal.returns-in-Err
returns-in-Err g c = record {
  done = tt;
  refused = rw (c.clear.ensures, c.nothing-self-inside.ensures) (ap empty (c.in-Err.ensures.settings ∙ sym c.self.invariant.settings ∙ ap (λ m. m.settings) c.self.view_is));
}
