use Rattle.{std.{proofs.Common.{◌≡◌, ◌∷◌, ◌++◌, take}, specs.List.flat_map}, open_sessions.specs.ViewWords.rule_words}
use Rattle.open_sessions.proofs.view_words.push_rules.Given as goal

abbrev pub invariant-loop-row : goal.invariant-loop-row
invariant-loop-row l = l.out.items ≡ l.initial.out.items ++ flat_map (λ row. 1 ∷ rule_words row) (take l.row-index l.rules)
