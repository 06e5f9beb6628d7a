use Rattle.requests.proofs.CommonNames.{◌≡◌, take}
use Rattle.requests.proofs.handlers.HandlerList.copy.Given as goal

abbrev pub invariant-loop-installed : goal.invariant-loop-installed
invariant-loop-installed g l = l.copies.items ≡ take l.installed-index l.self
