use Rattle.scenario_text.proofs.CommonNames.{length, Items}
use Rattle.scenario_text.proofs.{ReadLoops.HasItems, Lists.HasRules}
use Rattle.scenario_text.proofs.rules.read_policy.Given as goal

abbrev pub invariant-items : goal.invariant-items
invariant-items l = (front : Items → Items) × HasItems l.depth l.initial.reader l.reader front × HasRules front l.list

abbrev pub decreases-items : goal.decreases-items
decreases-items l = length l.reader
