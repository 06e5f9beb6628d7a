use Rattle.std.proofs.Common.{◌≡◌, ap, arith, sym, ◌∙◌}
use Rattle.std.proofs.lemmas.Bool.Decides.{nat_tests}
use Rattle.json_trace.proofs.ChangeLemmas.{numbered-at}
use Rattle.json_trace.proofs.changes.row_numbered.Goals as goal

pub returns-then-number : goal.returns-then-number
returns-then-number g c =
    let row = c.in-Some.row.now in
    let at = c.in-Some.ensures.lookup in
    let same : g.R.Row.number_of row ≡ c.args.number = grind (arith, nat_tests, c.number.ensures, c.if-number.true) in
    sym (numbered-at g.R.Row.number_of c.args.rows.now c.args.number c.args.guess row c.requires at.3.0 at.1 same)
