use Rattle.scenario_runs.proofs.CommonNames.{◌≡◌, ◌++◌, ◌*◌, ◌≤◌, length, drop}
use Rattle.step_types.proofs.Joins.{spaced}
use Rattle.scenario_runs.proofs.number_lists.push_block.Given as goal

abbrev pub invariant-loop-number : goal.invariant-loop-number
invariant-loop-number l = record {
  text : l.block.bytes ++ spaced (drop l.number-index l.numbers) ≡ spaced l.numbers;
  room : length l.block.bytes ≤ 11 * l.number-index;
}
