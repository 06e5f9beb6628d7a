use Rattle.std.proofs.Common.{ℕ, List, Option, ◌≡◌, ◌++◌, ◌∙◌, sym}
use Rattle.std.specs.Prelude.{Err}
use Rattle.scenario_text.specs.Plan.{asked}
use Rattle.scenario_runs.specs.{Parts.Parted, Runs.Writes, declared.running.RunFault.RunFault}
use Rattle.scenario_runs.proofs.PartLemmas.{parted_fault, parted_line}
use Rattle.json_trace.specs.Traces.{traced_line}
use Rattle.json_trace.proofs.WriteLemmas.{implied, succeeded}
use Rattle.json_trace.proofs.traces.add_line.Goals as goal

pub returns-then-is_err-clause-err : goal.returns-then-is_err-clause-err
returns-then-is_err-clause-err g c = λ before rest all p. parted_fault before _ _ _ _ all _ c.line_fault.ensures p

pub returns-clause-err : goal.returns-clause-err
returns-clause-err g c =
    let old = g.W.Write.contents c.args.writer.now in
    let new = g.W.Write.contents c.write_full.new.writer in
    let part = c.args.part.now in
    let place = c.args.place in
    let line = (traced_line place.number place.index (asked (place.user, c.args.step.now)) c.args.reply.now).text in
    let longer : c.push_line.new.text.items ≡ part.text.items ++ line = succeeded _ c.push_line.result (sym c.is_err.ensures.value ∙ c.if-is_err.false) c.push_line.ensures in
    implied (λ (e : RunFault). (before : Option (List ℕ)) (rest all : List ℕ) → Parted before old c.push_line.new.text.items rest all part.is_begun → Writes (Err e) before new all)
    (λ (e : RunFault). (before : Option (List ℕ)) (rest all : List ℕ) → Parted before old part.text.items (line ++ rest) all part.is_begun → Writes (Err e) before new all) c.write_full.result
    (λ e was before rest all p. was before rest all (parted_line before old part.text.items line c.push_line.new.text.items rest all part.is_begun longer p)) c.write_full.ensures.err
