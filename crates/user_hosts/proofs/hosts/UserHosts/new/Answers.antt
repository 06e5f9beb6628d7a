use Rattle.user_hosts.proofs.MadeLemmas.{kept_at_first}
use Rattle.user_hosts.proofs.hosts.UserHosts.new.Goals as goal

pub invariant_of-result : goal.invariant_of-result
invariant_of-result g c = rw (c.new.ensures, c.nothing.ensures) (kept_at_first c.args.settings)
