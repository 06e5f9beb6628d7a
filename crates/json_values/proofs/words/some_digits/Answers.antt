use Rattle.json_values.proofs.CommonNames.{◌≡◌, ◌+◌, cond, drop, None, Some, sym, ap, ◌∙◌, arith, ne_eqb, drop-drop, prefix_len-le-length, is_ascii_digit, prefix_len, length-drop}
use Rattle.json_values.proofs.words.some_digits.Goals as goal

pub returns-else-end-from : goal.returns-else-end-from
returns-else-end-from c =
    let d = c.args.bytes.now in
    let t = drop c.args.from d in
    let n = prefix_len is_ascii_digit t in
    let is : c.digits_end-end.result ≡ c.args.from + n = c.digits_end-end.ensures in (
      ap Some (ap (λ k. drop k d) is ∙ sym (drop-drop n c.args.from d)) ∙ sym (ap (λ b. cond b None (Some (drop n t))) (ne_eqb n 0 (λ e. c.if-end-from.false (omega (arith, is, e))))),
      (
        omega (arith, is),
        omega (arith, is, prefix_len-le-length is_ascii_digit t, length-drop c.args.from d),
      ),
    )
