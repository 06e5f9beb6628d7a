use Rattle.json_values.proofs.CommonNames.{◌≡◌, ◌+◌, ◌-◌, drop, arith, AllDigits, digits_value, take, sym, ap, subst, ◌∙◌, length-drop}
use Rattle.json_values.proofs.NumberTexts.{few_below}
use Rattle.json_values.proofs.words.few_digits.Goals as goal

pub returns : goal.returns
returns c =
    let found = c.first_digits-value.ensures in
    let count = c.first_digits-value.result.1 in
    let bs = drop c.args.from c.args.bytes.now in
    let same : count ≡ c.args.from + count - c.args.from = omega arith in
    let below = few_below bs count (omega (arith, length-drop c.args.from c.args.bytes.now, found.few.1)) (omega (arith, found.few.0, c.if-count-eq-MANY_DIGITS.false)) found.value.0 in
    record {
      later = omega (arith, c.if-count-eq0.false);
      within = found.few.1;
      small = omega (arith, below, found.value.1);
      digits = subst (λ k. AllDigits 10 (take k bs)) same found.value.0;
      writes = ap (λ k. digits_value 10 (take k bs)) (sym same) ∙ found.value.1;
    }
