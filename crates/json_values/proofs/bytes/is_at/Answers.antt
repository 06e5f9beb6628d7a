use Rattle.json_values.proofs.CommonNames.{◌≡◌, ◌≤◌, arith, ap, sym, ◌∙◌, take, drop, chunk, take-take, length, length-chunk, nat_tests, count_trailing_zeros}
use Rattle.json_values.proofs.Runs.{no_differences}
use Rattle.json_values.proofs.bytes.is_at.Goals as goal

pub returns-clause-same : goal.returns-clause-same
returns-clause-same c h =
    let d = c.args.bytes.now in
    let v = chunk c.args.from 16 d in
    let w = c.args.front.now in
    let long : length v ≡ 16 = length-chunk c.args.from 16 d (omega (arith, c.if-bytes-from-lt16.false, c.requires.within)) in
    let few : c.args.count ≤ count_trailing_zeros 64 c.differences-others.result = grind (arith, nat_tests, h) in
    let same = no_differences v w c.args.count long c.told-front c.requires.few (omega (arith, few, ap (count_trailing_zeros 64) c.differences-others.ensures)) in
    ap (λ n. take n (drop c.args.from d)) (omega arith) ∙ sym (take-take c.args.count 16 (drop c.args.from d) c.requires.few) ∙ same
