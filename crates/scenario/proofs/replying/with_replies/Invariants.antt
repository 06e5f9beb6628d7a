use Rattle.std.proofs.Common.{◌≡◌, ◌++◌, map}
use Rattle.scenario.proofs.CommonNames.{into_iter_items, boxed_script}
use Rattle.scenario.proofs.replying.with_replies.Given as goal

abbrev pub invariant-loop-script : goal.invariant-loop-script
invariant-loop-script g l = map boxed_script l.all.items ++ map boxed_script (into_iter_items l.script-iterator) ≡ map boxed_script l.fn.scripts.items
