use Rattle.requests.proofs.SoundAfterSpawn.{empty_sound}
use Rattle.requests.proofs.host.Host.new.Goals as goal

pub invariant_of-result : goal.invariant_of-result
invariant_of-result g c = rw (c.in_ok-tables.ensures, c.new-2.ensures) (empty_sound c.args.settings)
