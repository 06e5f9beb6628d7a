use Rattle.trace_rows.proofs.CommonNames.{◌≡◌, ◌∙◌, ap, sym, map_lwps, edited}
use Rattle.std.specs.Int.RustNames.{bit_or}
use Rattle.trace_rows.specs.Edits.{settled}
use Rattle.trace_rows.specs.CommonNames.{Post, opposed}
use Rattle.trace_rows.proofs.OneEdited.{posted_lwps}
use Rattle.trace_rows.proofs.edits.post_lwps.Goals as goal

pub returns-in-None : goal.returns-in-None
returns-in-None c =
    let rows = c.args.tables.now.rows in
    let pid = c.args.pid in
    let s = c.args.signal in
    let lost = c.args.lost in
    let taken : c.union.result ≡ bit_or (opposed s) lost = cc in
    c.settle_lwps.ensures ∙ (ap (λ a. map_lwps pid (settled a) rows) taken ∙ (posted_lwps pid s lost rows ∙ ap (λ to. map_lwps pid (edited (Post s to lost)) rows) (sym c.in-None.is)))
