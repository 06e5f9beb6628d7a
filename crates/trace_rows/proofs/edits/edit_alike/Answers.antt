use Rattle.trace_rows.proofs.CommonNames.{rules, edited}
use Rattle.trace_rows.proofs.OneEdited.{spares, edited_tid, edited_pid}
use Rattle.trace_rows.proofs.edits.edit_alike.Goals as goal

pub edit_touched_lwps-requires-clause-change : goal.edit_touched_lwps-requires-clause-change
edit_touched_lwps-requires-clause-change c = (
  edited c.args.edit.now,
  record {
    computes = λ l k there returned. search rules;
    number = edited_tid c.args.edit.now;
    process = edited_pid c.args.edit.now;
  },
  rw c.touched.ensures (spares c.args.edit.now c.requires),
)

pub returns : goal.returns
returns c = c.edit_touched_lwps.ensures.rows (edited c.args.edit.now) (λ l k there returned. search rules) (rw c.touched.ensures (spares c.args.edit.now c.requires))
