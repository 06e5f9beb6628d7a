use Rattle.requests.specs.Isolation.{spawns}
use Rattle.test_no_memory.proofs.laws.Law.replies.Goals as goal

pub foreign_number-requires-clause-steps : goal.foreign_number-requires-clause-steps
foreign_number-requires-clause-steps c κs = spawns
