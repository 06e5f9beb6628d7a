use Rattle.scenario_text.proofs.CommonNames.{◌≡◌, length, Items, gather, ◌>>=◌}
use Rattle.scenario_text.proofs.ReadLoops.{HasItems}
use Rattle.scenario_text.proofs.arrays.gather.Given as goal

abbrev pub invariant-items : goal.invariant-items
invariant-items g l =
    (front : Items → Items) × HasItems l.depth l.initial.reader l.reader front
    × ((ds : Items) → gather g.S.Gathered.added l.fn.none (front ds) ≡ (l.set >>= (λ s. gather g.S.Gathered.added s ds)))

abbrev pub decreases-items : goal.decreases-items
decreases-items g l = length l.reader
