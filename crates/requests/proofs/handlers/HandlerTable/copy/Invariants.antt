use Rattle.requests.proofs.CommonNames.{◌≡◌, take}
use Rattle.requests.proofs.handlers.HandlerTable.copy.Given as goal

abbrev pub invariant-loop-list : goal.invariant-loop-list
invariant-loop-list g l = l.lists.items ≡ take l.list-index l.self
