use Rattle.scenario_text.proofs.CommonNames.{◌≤◌, ◌+◌, length, Items, max_steps}
use Rattle.scenario_text.proofs.{ReadLoops.HasItems, Lists.HasSteps}
use Rattle.scenario_text.proofs.listing.read_list.Given as goal

abbrev pub invariant-items : goal.invariant-items
invariant-items l =
    (front : Items → Items) × HasItems l.depth l.initial.reader l.reader front × HasSteps front l.list
    × record { short : length l.list.steps ≤ l.list.count; capped : l.list.count ≤ max_steps + 1 }

abbrev pub decreases-items : goal.decreases-items
decreases-items l = length l.reader
