use Rattle.json_values.proofs.CommonNames.{◌≡◌, ◌+◌, ◌-◌, drop, arith, length-drop}
use Rattle.std.proofs.lemmas.Grind.{common_steps}
use Rattle.json_values.proofs.Contents.{content-after_high, short_after_high, len_utf8-le}
use Rattle.json_values.proofs.StringEnds.{half_passed}
use Rattle.json_values.proofs.escapes.low_surrogate.Goals as goal

pub returns-then-bytes-at-lt6-clause-value : goal.returns-then-bytes-at-lt6-clause-value
returns-then-bytes-at-lt6-clause-value c =
    grind (arith, common_steps, content-after_high c.args.bytes.now c.args.at c.args.high, short_after_high c.args.high (drop c.args.at c.args.bytes.now), length-drop c.args.at c.args.bytes.now)

pub returns-in_err-low-clause-value : goal.returns-in_err-low-clause-value
returns-in_err-low-clause-value c = grind (arith, common_steps, content-after_high c.args.bytes.now c.args.at c.args.high (omega arith))

pub returns-then-not-low-clause-value : goal.returns-then-not-low-clause-value
returns-then-not-low-clause-value c = grind (arith, common_steps, content-after_high c.args.bytes.now c.args.at c.args.high (omega arith))

pub returns-clause-value : goal.returns-clause-value
returns-clause-value c =
    let last : c.args.at + 6 - 1 ≡ c.args.at + 2 + 3 = omega arith in
    (grind (arith, content-after_high c.args.bytes.now c.args.at c.args.high (omega arith)), omega arith, omega arith, omega (arith, len_utf8-le c.in_ok-c.c), rw last c.in_ok-low.ensures.bounds.1)

pub returns-clause-passed : goal.returns-clause-passed
returns-clause-passed c = half_passed c.args.bytes.now c.args.at (omega arith) (grind arith) c.in_ok-low.ensures.passed
