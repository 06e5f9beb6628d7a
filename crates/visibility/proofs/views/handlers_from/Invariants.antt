use Rattle.visibility.proofs.CommonNames.{◌≡◌, ◌++◌, ◌-◌, ◌≤◌, map, drop, length, installed_by}
use Rattle.visibility.proofs.views.handlers_from.Given as goal

abbrev pub invariant-loop-pair : goal.invariant-loop-pair
invariant-loop-pair g l = record {
  within : length l.pairs.items ≤ length (installed_by l.user l.host);
  kept : map (λ i. record { debugger = i.0; policy = i.1 }) l.pairs.items ++ drop (length l.pairs.items) (installed_by l.user l.host) ≡ installed_by l.user l.host;
}

abbrev pub decreases-loop-pair : goal.decreases-loop-pair
decreases-loop-pair g l = length (installed_by l.user l.host) - length l.pairs.items
