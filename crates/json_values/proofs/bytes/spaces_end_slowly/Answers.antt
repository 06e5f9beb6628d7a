use Rattle.json_values.proofs.CommonNames.{◌∙◌, ap, sym, arith, get_or_default, is_blank, class}
use Rattle.json_values.proofs.Texts.{past_space}
use Rattle.json_values.proofs.bytes.spaces_end_slowly.Goals as goal

pub loop-at-preserved : goal.loop-at-preserved
loop-at-preserved c =
    let d = c.args.bytes.now in
    let i = c.loop-at.at in
    let blank = ap (λ x. is_blank (class x)) (get_or_default d i 32 0 c.loop-at-test.true) ∙ sym c.is_space.ensures ∙ c.if-is_space.true in
    (past_space d i c.loop-at-test.true blank ∙ c.loop-at.invariant.0, omega arith, omega arith)
