use Rattle.std.proofs.lemmas.Nat.{or_lt}
use Rattle.signals.proofs.SigSet.union.Goals as goal

pub invariant_of-result : goal.invariant_of-result
invariant_of-result c = or_lt 31 _ _ c.self.invariant c.other.invariant
