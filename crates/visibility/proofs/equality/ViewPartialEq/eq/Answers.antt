use Rattle.visibility.proofs.CommonNames.{rules}
use Rattle.visibility.proofs.Pairs.{exact_of}
use Rattle.visibility.proofs.equality.ViewPartialEq.eq.Goals as goal

pub returns-then-same_handlers-clause-exact : goal.returns-then-same_handlers-clause-exact
returns-then-same_handlers-clause-exact c = exact_of c.eq-then-same_handlers.result c.args.self.now c.args.other.now (search rules)

pub returns-else-same_handlers-clause-exact : goal.returns-else-same_handlers-clause-exact
returns-else-same_handlers-clause-exact c = exact_of c.if-self-other-2.value c.args.self.now c.args.other.now (search rules)
