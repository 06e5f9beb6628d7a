use Rattle.signals.proofs.CommonNames.{rules, one_shl, pow-lt}
use Rattle.signals.proofs.SigSet.of.Goals as goal

pub invariant_of-result : goal.invariant_of-result
invariant_of-result c = search (rules, one_shl, pow-lt)
