use Rattle.requests.proofs.CommonNames.{◌≡◌, ◌≤◌, drop, decided, policies_in}
use Rattle.requests.proofs.handlers.HandlerList.decided.Given as goal

abbrev pub invariant-loop-installed : goal.invariant-loop-installed
invariant-loop-installed g l =
    (l.index ≤ l.installed-index)
    × (decided (policies_in l.debugger (drop l.installed-index l.self)) l.index l.view ≡ decided (policies_in l.debugger l.self) 0 l.view)
