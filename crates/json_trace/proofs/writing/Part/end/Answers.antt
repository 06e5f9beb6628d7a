use Rattle.std.proofs.Common.{refl, subst}
use Rattle.scenario_runs.specs.Runs.{Writes}
use Rattle.scenario_runs.proofs.PartLemmas.{parted_begins, parted_end}
use Rattle.json_trace.proofs.writing.Part.end.Goals as goal

pub returns-clause-writes : goal.returns-clause-writes
returns-clause-writes g c = λ before all p.
    let written = subst (λ bytes. Writes c.write_whole.result (g.W.Write.contents c.args.writer.now) (g.W.Write.contents c.write_whole.new.writer) bytes) c.as_slice.ensures.value c.write_whole.ensures.writes in
    parted_end before _ _ c.write_whole.result _ _ all _ refl c.write_whole.ensures.kind p written

pub returns-clause-front : goal.returns-clause-front
returns-clause-front g c = λ before rest all p.
    let written = subst (λ bytes. Writes c.write_whole.result (g.W.Write.contents c.args.writer.now) (g.W.Write.contents c.write_whole.new.writer) bytes) c.as_slice.ensures.value c.write_whole.ensures.writes in
    parted_begins before _ _ c.write_whole.result _ rest all _ c.write_whole.ensures.kind p written
