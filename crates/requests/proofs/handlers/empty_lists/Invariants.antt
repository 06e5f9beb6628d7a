use Rattle.requests.proofs.CommonNames.{◌≡◌, [], replicate}
use Rattle.requests.proofs.handlers.empty_lists.Given as goal

abbrev pub invariant-loop : goal.invariant-loop
invariant-loop g l = l.lists.items ≡ replicate l.counter []
