use Rattle.{std.{proofs.Common.{◌≡◌, ◌∷◌, ◌++◌, take}, specs.List.flat_map}, open_sessions.specs.ViewWords.process_words}
use Rattle.open_sessions.proofs.view_words.push_processes.Given as goal

abbrev pub invariant-loop-row : goal.invariant-loop-row
invariant-loop-row l = l.out.items ≡ l.initial.out.items ++ flat_map (λ row. 1 ∷ process_words row) (take l.row-index l.rows)
