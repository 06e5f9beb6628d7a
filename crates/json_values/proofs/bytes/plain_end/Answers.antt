use Rattle.json_values.proofs.CommonNames.{drop, sym, ap, ◌∙◌, arith, prefix_len-le-length, count_trailing_zeros, is_plain, length-drop}
use Rattle.json_values.proofs.Runs.{run_stops}
use Rattle.json_values.proofs.bytes.plain_end.Goals as goal

pub returns-clause-bound : goal.returns-clause-bound
returns-clause-bound c =
    let d = c.args.bytes.now in
    let found = c.stops-found.ensures in
    let run = run_stops d c.args.from (omega arith) (omega (arith, found, c.if-found-eq0.false)) ∙ ap (count_trailing_zeros 64) (sym found) in
    omega (arith, run, prefix_len-le-length is_plain (drop c.args.from d), length-drop c.args.from d)
