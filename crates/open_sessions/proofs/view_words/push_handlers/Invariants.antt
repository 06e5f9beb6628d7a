use Rattle.{std.{proofs.Common.{◌≡◌, ◌∷◌, ◌++◌, take}, specs.{List.flat_map, Prelude.map}}, open_sessions.specs.ViewWords.handler_words}
use Rattle.open_sessions.proofs.view_words.push_handlers.Given as goal

abbrev pub invariant-loop-row : goal.invariant-loop-row
invariant-loop-row l =
    l.out.items ≡ l.initial.out.items ++ flat_map (λ row. 1 ∷ handler_words row) (map (λ i. record { debugger = i.0; policy = i.1 }) (take l.row-index l.handlers))
