use Rattle.std.proofs.Common.{◌≡◌, ◌++◌, map}
use Rattle.sessions.proofs.CommonNames.{into_iter_items, own_step}
use Rattle.sessions.proofs.boxing.boxed_one.Given as goal

abbrev pub invariant-loop-step : goal.invariant-loop-step
invariant-loop-step g l = map own_step l.small.items ++ into_iter_items l.step-iterator ≡ l.fn.script.steps.items
