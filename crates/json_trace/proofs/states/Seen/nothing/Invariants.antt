use Rattle.std.proofs.Common.{◌≡◌, None, replicate}
use Rattle.json_trace.proofs.states.Seen.nothing.Given as goal

abbrev pub invariant-loop-slot : goal.invariant-loop-slot
invariant-loop-slot l = l.views.items ≡ replicate l._slot None
