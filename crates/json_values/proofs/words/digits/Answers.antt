use Rattle.json_values.proofs.CommonNames.{◌≡◌, ◌+◌, ◌<◌, get_or, drop, length, ap, ◌∙◌, arith, get_or-drop, digit_value, digits_more, digits_value_more, length-drop}
use Rattle.json_values.proofs.NumberTexts.{few_below}
use Rattle.json_values.proofs.words.digits.Goals as goal

pub loop-count-preserved : goal.loop-count-preserved
loop-count-preserved c =
    let d = c.args.bytes.now in
    let l = c.loop-count in
    let inv = l.invariant in
    let bs = drop c.args.from d in
    let x = get_or d (c.args.from + l.count) 0 in
    let here : get_or bs l.count 0 ≡ x = get_or-drop c.args.from d l.count 0 in
    let low : c.digit-digit.result < 10 = omega (arith, c.if-digit-ge10.false) in
    let is : digit_value x ≡ c.digit-digit.result = c.digit-digit.ensures low in
    let room : l.count < length bs = omega (arith, inv.0, c.requires.within, length-drop c.args.from d, c.loop-count-test.true) in (
      omega (arith, c.loop-count-test.true),
      digits_more 10 bs l.count room inv.1 (omega (arith, is, low, ap digit_value here)),
      digits_value_more 10 bs l.count room ∙ omega (arith, inv.2, ap digit_value here, is),
    )

pub overflow_mul-value : goal.overflow_mul-value
overflow_mul-value c =
    let l = c.loop-count in
    let inv = l.invariant in
    let below = few_below (drop c.args.from c.args.bytes.now) l.count (omega (arith, length-drop c.args.from c.args.bytes.now, c.requires.within, c.loop-count-test.true)) (omega (arith, c.requires.few, c.loop-count-test.true)) inv.1 in
    omega (arith, below, inv.2)

pub overflow_add-value : goal.overflow_add-value
overflow_add-value c =
    let l = c.loop-count in
    let inv = l.invariant in
    let below = few_below (drop c.args.from c.args.bytes.now) l.count (omega (arith, length-drop c.args.from c.args.bytes.now, c.requires.within, c.loop-count-test.true)) (omega (arith, c.requires.few, c.loop-count-test.true)) inv.1 in
    let low : c.digit-digit.result < 10 = omega (arith, c.if-digit-ge10.false) in
    omega (arith, below, inv.2, low)
