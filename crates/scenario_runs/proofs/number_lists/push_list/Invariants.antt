use Rattle.scenario_runs.proofs.CommonNames.{◌≡◌, ◌++◌, ◌∷◌, length, map, string_bytes}
use Rattle.std.specs.{Prelude.decimal, List.join_with_byte}
use Rattle.step_types.proofs.Joins.{spaced}
use Rattle.scenario_runs.proofs.number_lists.push_list.Given as goal

abbrev pub invariant-loop-rest : goal.invariant-loop-rest
invariant-loop-rest l = string_bytes l.text ++ spaced l.rest ≡ string_bytes l.fn.text ++ (32 ∷ join_with_byte 32 (l.word ∷ map (λ n. decimal n) l.numbers))

abbrev pub decreases-loop-rest : goal.decreases-loop-rest
decreases-loop-rest l = length l.rest
