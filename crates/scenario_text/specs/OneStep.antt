-- A text that is one step.
use Rattle.std.specs.Prelude.{◌<◌, ◌≤◌}
use Rattle.scenario_text.specs.CommonNames.{ℕ, List, length, Result, Err, Data, UserStep, Fault, TooLong, BadJson}
use Rattle.scenario_text.specs.{Scenarios.numbered, Scenarios.HasValue, Scenarios.HasNoValue, Scenarios.Answers, Fields.seen, Steps.step_of}

abbrev pub max_step_bytes : ℕ
max_step_bytes = 65536

-- the bytes are a step, as an item of a scenario's `steps` is, or have the fault; such a step has the number 1
pub data IsStep (bytes : List ℕ) : Result UserStep Fault → Type 0 where
  too_long : max_step_bytes < length bytes → IsStep bytes (Err TooLong)
  no_value : length bytes ≤ max_step_bytes → HasNoValue bytes → IsStep bytes (Err BadJson)
  value : (d : Data) → length bytes ≤ max_step_bytes → HasValue bytes d → IsStep bytes (numbered 1 (step_of d))

-- the returned result, mapped by view, satisfies the relation, unless memory ran out
abbrev pub AnswersBy : {X Y : Type 0} → (X → Y) → Result X Fault → (Result Y Fault → Type 0) → Type 0
AnswersBy view r P = Answers (seen view r) P
