use Rattle.{std.proofs.{Common.{arith, ap, sym, ◌∙◌}, lemmas.List.length-map}, tracehost_c.specs.FlatRows.flat_process, tracehost_c.proofs.RowLemmas.{more, all}}
use Rattle.tracehost_c.proofs.views.put_processes.Goals as goal

pub loop-place-preserved : goal.loop-place-preserved
loop-place-preserved c = more flat_process c.args.rows.now c.args.out.now c.loop-place.out c.loop-place.place c.index-rows-place.result c.of.result (omega arith) (omega arith) c.loop-place.invariant (c.of.ensures ∙ ap flat_process c.index-rows-place.is)

pub returns : goal.returns
returns c = (all flat_process c.args.rows.now c.args.out.now c.loop-place.out c.loop-place.place (omega arith) c.loop-place.invariant, sym (length-map c.args.rows.now flat_process))
