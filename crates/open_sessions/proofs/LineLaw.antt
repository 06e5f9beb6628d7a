-- The line of a step is read as the step.
use Rattle.std.proofs.Common.{◌≤◌, length, arith}
use Rattle.std.specs.Prelude.{Ok}
use Rattle.pid_blocks.specs.Users.{IsUser}
use Rattle.step_types.specs.Plain.{UserStep}
use Rattle.scenario_text.specs.OneStep.{IsStep, value}
use Rattle.open_sessions.{specs.StepLines.{HasLine, as_line, line_of, line_value}, proofs.{LineTexts.{IsRead, object_in, object_read, text_read, text_short, text_utf8}, LineSteps.{keys_of, line_is}, LineCounts.line_count}}

pub line_is_step : (a : UserStep) → IsUser a.uid → HasLine a.step → IsStep (line_of a) (Ok (record a { step = as_line a.step }))
line_is_step a user has =
    let line = line_is a.uid user a.step has in
    let datum = object_in (keys_of a.uid a.step) line.values in
    let is : IsRead 4 (line_value a) datum = object_read 3 (keys_of a.uid a.step) line.values line.read in
    let short : length (line_of a) ≤ 65536 = omega (arith, text_short (line_value a) datum is, line_count a.uid a.step has) in
    rw line.is at (value datum short (text_utf8 (line_value a) datum is, text_read (line_value a) datum is))
