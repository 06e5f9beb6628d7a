use Rattle.std.proofs.Common.{◌≡◌, Some, ap, subst, sym, ◌∙◌}
use Rattle.std.specs.Prelude.{option_map}
use Rattle.tracehost.specs.Runs.{Compared, run_text}
use Rattle.tracehost.proofs.RowLemmas.{runs_as}
use Rattle.tracehost.proofs.listing.compare_texts.Goals as goal

pub returns-in_default-2 : goal.returns-in_default-2
returns-in_default-2 g c = λ _.
    let same = subst (λ r. Compared (run_text c.args.shown.now c.in-Ok.read) (Some c.as_slice-wanted.result.now) (option_map (λ t. t.items) r)) c.in_default-2.is c.in_ok-text.ensures in
    runs_as (g.T.Texts.text c.args.texts.now) c.args.shown.now c.args.scenario.now c.args.expected.now c.in-Ok.read c.in-Ok-bytes.wanted.items
    c.in-Ok.ensures c.in-Ok-bytes.ensures (ap Some (sym c.as_slice-wanted.ensures.value) ∙ same)
