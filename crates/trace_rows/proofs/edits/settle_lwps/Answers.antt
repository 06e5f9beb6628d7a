use Rattle.trace_rows.proofs.CommonNames.{rules, refl}
use Rattle.trace_rows.specs.Edits.{settled}
use Rattle.trace_rows.proofs.OneEdited.{settled_spared}
use Rattle.trace_rows.proofs.edits.settle_lwps.Goals as goal

pub edit_touched_lwps-requires-clause-change : goal.edit_touched_lwps-requires-clause-change
edit_touched_lwps-requires-clause-change c = (
  settled c.args.lost,
  record {
    computes = λ l k there returned. search rules;
    number = λ l. refl;
    process = λ l. refl;
  },
  λ l apart. settled_spared l c.args.lost (cc),
)

pub returns : goal.returns
returns c = c.edit_touched_lwps.ensures.rows (settled c.args.lost) (λ l k there returned. search rules) (λ l apart. settled_spared l c.args.lost (cc))
