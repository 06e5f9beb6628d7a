use Rattle.std.proofs.Common.{ℕ, List, ◌≡◌, ◌++◌, [], append-nil}
use Rattle.scenario_runs.specs.Parts.{Parted}
use Rattle.scenario_runs.proofs.PartLemmas.{parted_start}
use Rattle.json_trace.specs.Traces.{trace_shown}
use Rattle.json_trace.proofs.WriteLemmas.{writes_handed}
use Rattle.json_trace.proofs.traces.write_trace.Goals as goal

pub returns-in_err-add_lines-clause-writes : goal.returns-in_err-add_lines-clause-writes
returns-in_err-add_lines-clause-writes g c =
    let text = trace_shown c.args.user c.args.scenario.now in
    let old = g.W.Write.contents c.args.writer.now in
    let start : Parted old old c.in_ok-part.part.text.items (text ++ []) text c.in_ok-part.part.is_begun = rw (c.in_ok-part.ensures.0, c.in_ok-part.ensures.1) (parted_start old [] (text ++ []) text (append-nil text)) in
    writes_handed c.from_residual-in_err-add_lines.result c.in_err-add_lines.field-0.0 old (g.W.Write.contents c.add_lines.new.writer) text c.from_residual-in_err-add_lines.ensures.1 (c.in_err-add_lines.ensures.err old [] text start)
