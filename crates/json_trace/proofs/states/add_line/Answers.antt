use Rattle.std.proofs.Common.{ℕ, List, Option, ◌≡◌, ◌++◌, ◌∙◌, Some, None, ap, get_or, subst, sym}
use Rattle.std.specs.Prelude.{Err}
use Rattle.std.proofs.lemmas.Option.{same_Some}
use Rattle.lwp_table.specs.declared.LwpData.{LwpData}
use Rattle.pid_blocks.specs.Blocks.{slot}
use Rattle.proc_table.specs.declared.ProcData.{ProcData}
use Rattle.requests.specs.View.{View, view}
use Rattle.step_types.specs.declared.Reply.{Reply}
use Rattle.visibility.specs.Numbers.{NumbersDiffer}
use Rattle.scenario_text.specs.Plan.{asked}
use Rattle.scenario_runs.specs.{Parts.Parted, Runs.Writes, declared.running.RunFault.RunFault}
use Rattle.scenario_runs.proofs.PartLemmas.{parted_line}
use Rattle.open_sessions.specs.Answers.{last_reply}
use Rattle.json_trace.specs.{Changes.rows_line, Parts.Stopped, Seen.{lwps_in, processes_in}}
use Rattle.json_trace.proofs.WriteLemmas.{handed}
use Rattle.json_trace.proofs.states.add_line.Goals.{After-write_full}
use Rattle.json_trace.proofs.states.add_line.Given.{Over}
use Rattle.json_trace.proofs.states.add_line.Goals as goal

-- the line with this reply
abbrev line_with : (g : Over) (c : After-write_full g) → Reply → List ℕ
line_with g c reply =
    (rows_line c.args.place.number c.args.place.index (asked (c.args.place.user, c.args.step.now)) reply (processes_in (get_or c.args.seen.now.views.items (slot c.args.place.user) None)) (lwps_in (get_or c.args.seen.now.views.items (slot c.args.place.user) None))
    (view c.args.place.user c.args.session.now.host)).text

-- the text has got the line of the last reply
longer : (g : Over) (c : After-write_full g) (reply : Reply) → last_reply c.args.session.now.last ≡ Some reply → c.extend_from_slice.new.self.items ≡ c.args.part.now.text.items ++ line_with g c reply
longer g c reply last =
    let n = c.args.place.number in
    let i = c.args.place.index in
    let a = asked (c.args.place.user, c.args.step.now) in
    let ps = c.rows.result.processes.now in
    let ls = c.rows.result.lwps.now in
    let v = c.in_ok-after.after in
    let same : c.in-Some.reply.now ≡ reply = same_Some c.in-Some.reply.now reply (c.in-Some.ensures ∙ last) in
    let is : c.in_ok-line.line.items ≡ line_with g c reply =
    c.in_ok-line.ensures ∙ ap (λ (r : Reply). (rows_line n i a r ps ls v).text) same ∙ ap (λ (xs : List ProcData). (rows_line n i a reply xs ls v).text) c.rows.ensures.processes
    ∙ ap (λ (xs : List LwpData). (rows_line n i a reply (processes_in (get_or c.args.seen.now.views.items (slot c.args.place.user) None)) xs v).text) c.rows.ensures.lwps
    ∙ ap (λ (w : View). (rows_line n i a reply (processes_in (get_or c.args.seen.now.views.items (slot c.args.place.user) None)) (lwps_in (get_or c.args.seen.now.views.items (slot c.args.place.user) None)) w).text) c.in_ok-after.ensures.view in
    c.in_ok-extend_from_slice.ensures.items ∙ ap (λ xs. c.args.part.now.text.items ++ xs) (c.as_slice.ensures.value ∙ is)

pub returns-in_err-write_full-clause-err : goal.returns-in_err-write_full-clause-err
returns-in_err-write_full-clause-err g c =
    let at = (goal.at.returns-in_err-write_full-clause-err g c).After-write_full in
    let old = g.W.Write.contents c.args.writer.now in
    let new = g.W.Write.contents c.write_full.new.writer in
    let part = c.args.part.now in
    let fault = c.in_err-write_full.field-0.0 in
    let kind = c.in_err-write_full.ensures.kind in
    handed (λ (e : RunFault). (before : Option (List ℕ)) (rest all : List ℕ) (reply : Reply) → last_reply c.args.session.now.last ≡ Some reply → Parted before old part.text.items (line_with g at reply ++ rest) all part.is_begun
    → Stopped e before new c.write_full.new.self.text.items all c.write_full.new.self.is_begun) c.from_residual-in_err-write_full.result fault c.from_residual-in_err-write_full.ensures.1
    (λ before rest all reply last p.
    let w = c.in_err-write_full.ensures.err before rest all (parted_line before old part.text.items (line_with g at reply) c.extend_from_slice.new.self.items rest all part.is_begun (longer g at reply last) p) in
    let begun = subst (λ (e : RunFault). Writes (Err e) before new all) kind w in
    subst (λ (e : RunFault). Stopped e before new c.write_full.new.self.text.items all c.write_full.new.self.is_begun) (sym kind) begun)

pub returns-clause-ok : goal.returns-clause-ok
returns-clause-ok g c = λ before rest all reply last p.
    let at = (goal.at.returns-clause-ok g c).After-write_full in
    let old = g.W.Write.contents c.args.writer.now in
    let part = c.args.part.now in
    c.in_ok-write_full.ensures.ok before rest all (parted_line before old part.text.items (line_with g at reply) c.extend_from_slice.new.self.items rest all part.is_begun (longer g at reply last) p)

pub returns-clause-differ : goal.returns-clause-differ
returns-clause-differ g c = subst NumbersDiffer c.in_ok-after.ensures.view c.in_ok-after.ensures.differ
