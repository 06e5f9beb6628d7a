use Rattle.stop_handlers.proofs.PolicyLemmas.{written-is}
use Rattle.stop_handlers.proofs.Policy.new.Goals as goal

pub invariant_of-result : goal.invariant_of-result
invariant_of-result c = written-is c.args.rules.now c.copy_from_slice.new.self c.idle-kept.result c.idle-kept.ensures c.copy_from_slice.ensures.after c.if-rules-gt16.false
