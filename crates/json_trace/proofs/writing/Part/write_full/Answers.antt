use Rattle.std.proofs.Common.{ℕ, List, Option, refl, subst}
use Rattle.std.specs.Prelude.{Err}
use Rattle.std.specs.Io.KnownBytes.{Appends}
use Rattle.scenario_runs.specs.{Parts.Parted, Runs.Writes}
use Rattle.scenario_runs.proofs.PartLemmas.{parted_failed, parted_written}
use Rattle.json_trace.proofs.WriteLemmas.{handed}
use Rattle.json_trace.proofs.writing.Part.write_full.Goals as goal

pub returns-in_err-write_whole-clause-err : goal.returns-in_err-write_whole-clause-err
returns-in_err-write_whole-clause-err g c =
    let fault = c.in_err-write_whole.field-0.0 in
    let old = g.W.Write.contents c.args.writer.now in
    let new = g.W.Write.contents c.write_whole.new.writer in
    let part = c.args.self.now in
    let written = subst (λ bytes. Writes (Err fault) old new bytes) c.as_slice.ensures.value c.in_err-write_whole.ensures.writes in
    handed (λ e. (before : Option (List ℕ)) (rest all : List ℕ) → Parted before old part.text.items rest all part.is_begun → Writes (Err e) before new all) c.from_residual.result fault c.from_residual.ensures.1
    (λ before rest all p. parted_failed before old new (Err fault) fault part.text.items rest all part.is_begun refl c.in_err-write_whole.ensures.kind p written)

pub returns-in_ok-write_whole-clause-ok : goal.returns-in_ok-write_whole-clause-ok
returns-in_ok-write_whole-clause-ok g c = λ before rest all p.
    let old = g.W.Write.contents c.args.writer.now in
    let new = g.W.Write.contents c.write_whole.new.writer in
    let part = c.args.self.now in
    let written = subst (λ bytes. Appends old new bytes) c.as_slice.ensures.value c.in_ok-write_whole.ensures.writes in
    rw c.clear.ensures.items (parted_written before old new part.text.items rest all part.is_begun p written)
