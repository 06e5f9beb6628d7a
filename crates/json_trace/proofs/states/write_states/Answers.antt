use Rattle.std.proofs.Common.{ℕ, List, ◌≡◌, [], refl, subst}
use Rattle.scenario_runs.specs.{Parts.Parted, declared.running.RunFault.RunFault, declared.running.RunFault.TheVariants.Memory}
use Rattle.scenario_runs.proofs.PartLemmas.{parted_start}
use Rattle.json_trace.specs.{Changes.rows_shown, Parts.Stopped}
use Rattle.json_trace.proofs.WriteLemmas.{front_at, front_of, stopped}
use Rattle.json_trace.proofs.states.write_states.Goals.{After-add_lines}
use Rattle.json_trace.proofs.states.write_states.Given.{Over}
use Rattle.json_trace.proofs.states.write_states.Goals as goal

abbrev all : (g : Over) (c : After-add_lines g) → List ℕ
all g c = rows_shown c.args.user c.args.scenario.now

start : (g : Over) (c : After-add_lines g) → Parted (g.W.Write.contents c.args.writer.now) (g.W.Write.contents c.args.writer.now) c.in_ok-part.part.text.items (all g c) (all g c) c.in_ok-part.part.is_begun
start g c = rw (c.in_ok-part.ensures.0, c.in_ok-part.ensures.1) (parted_start (g.W.Write.contents c.args.writer.now) [] (all g c) (all g c) refl)

pub returns-in-Ok : goal.returns-in-Ok
returns-in-Ok g c =
    let at = (goal.at.returns-in-Ok g c).After-add_lines in
    let old = g.W.Write.contents c.args.writer.now in
    front_of c.end.result old (g.W.Write.contents c.end.new.writer) (all g at) c.end.ensures.kind (c.end.ensures.writes old (all g at) (c.in-Ok.ensures.ok old (all g at) (start g at)))

-- the lines that are still to be written after a run without memory
left : (g : Over) (c : After-add_lines g) (fault : RunFault) → fault ≡ Memory → Stopped fault (g.W.Write.contents c.args.writer.now) (g.W.Write.contents c.add_lines.new.writer) c.add_lines.new.part.text.items (all g c) c.add_lines.new.part.is_begun
    → (rest : List ℕ) × Parted (g.W.Write.contents c.args.writer.now) (g.W.Write.contents c.add_lines.new.writer) c.add_lines.new.part.text.items rest (all g c) c.add_lines.new.part.is_begun
left g c fault is s = subst (λ (e : RunFault). Stopped e (g.W.Write.contents c.args.writer.now) (g.W.Write.contents c.add_lines.new.writer) c.add_lines.new.part.text.items (all g c) c.add_lines.new.part.is_begun) is s

pub returns-in_err-end-in-Err-Memory : goal.returns-in_err-end-in-Err-Memory
returns-in_err-end-in-Err-Memory g c =
    let at = (goal.at.returns-in_err-end-in-Err-Memory g c).After-add_lines in
    let old = g.W.Write.contents c.args.writer.now in
    let part = left g at c.in-Err-Memory.field-0 c.in-Err-Memory.field-0-is (c.in-Err-Memory.ensures.err old (all g at) (start g at)) in
    front_at c.from_residual-in_err-end-in-Err-Memory.result c.in_err-end-in-Err-Memory.field-0.0 old (g.W.Write.contents c.end-in-Err-Memory.new.writer) (all g at) c.from_residual-in_err-end-in-Err-Memory.ensures.1
    (c.in_err-end-in-Err-Memory.ensures.front old part.0 (all g at) part.1)

pub returns-in-Err-Memory : goal.returns-in-Err-Memory
returns-in-Err-Memory g c =
    let at = (goal.at.returns-in-Err-Memory g c).After-add_lines in
    let old = g.W.Write.contents c.args.writer.now in
    let part = left g at c.in-Err-Memory.field-0 c.in-Err-Memory.field-0-is (c.in-Err-Memory.ensures.err old (all g at) (start g at)) in
    c.in_ok-end-in-Err-Memory.ensures.front old part.0 (all g at) part.1

pub returns : goal.returns
returns g c =
    let at = (goal.at.returns g c).After-add_lines in
    let old = g.W.Write.contents c.args.writer.now in
    stopped c.in-Err.fault old (g.W.Write.contents c.add_lines.new.writer) c.add_lines.new.part.text.items (all g at) c.add_lines.new.part.is_begun (c.in-Err.ensures.err old (all g at) (start g at))
