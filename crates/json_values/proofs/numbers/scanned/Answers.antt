use Rattle.json_values.proofs.CommonNames.{◌≡◌, drop, true, ap, ◌∙◌, arith, take_all, scan, number_of, number_from, length-drop}
use Rattle.json_values.proofs.NumberTexts.{with_minus}
use Rattle.json_values.proofs.numbers.scanned.Goals as goal

pub returns-then-has_minus : goal.returns-then-has_minus
returns-then-has_minus c =
    let s = c.as_bytes-bytes.result.now in
    let parts : c.scan.result ≡ scan (drop 1 s) = c.scan.ensures.parts ∙ ap scan (take_all _ (drop 1 s) (omega (arith, length-drop 1 s))) in
    ap (number_from true) parts ∙ with_minus s c.if-has_minus.ensures ∙ ap number_of c.as_bytes-bytes.ensures.value
