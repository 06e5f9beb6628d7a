use Rattle.std.proofs.Common.{ℕ, List, None, Option, Result, Some, ◌≡◌, ◌∙◌, [], ap, append-nil, subst, sym, if◌then◌else◌}
use Rattle.std.specs.Prelude.{Ok, Err, ⊤}
use Rattle.std.specs.Io.KnownBytes.{Appends, Keeps}
use Rattle.scenario_runs.specs.{Parts.Begins, Runs.Writes, declared.running.RunFault.RunFault, declared.running.RunFault.TheVariants.{Memory, Mismatch, Start, Write}}
use Rattle.scenario_runs.proofs.WriteLemmas.{appends_kept}
use Rattle.json_trace.specs.{Changes.rows_shown, Parts.WritesFront}
use Rattle.tracehost.specs.Runs.{lines_shown, run_text, traces_shown}
use Rattle.tracehost.proofs.write_run.Goals as goal

-- nothing is the beginning of any text
begins : (a b : Option (List ℕ)) (text : List ℕ) → Keeps a b → Begins a b text
begins a b text kept = (0, appends_kept a a b [] (nothing a) kept)
  where
    nothing : (o : Option (List ℕ)) → Appends o o []
    nothing None = tt
    nothing (Some xs) = sym (append-nil xs)

front : (r : Result ⊤ RunFault) (a b : Option (List ℕ)) (text : List ℕ) → Writes r a b text → WritesFront r a b text
front (Ok done) a b text w = w
front (Err Write) a b text w = w
front (Err Memory) a b text w = begins a b text w
front (Err Start) a b text w = begins a b text w
front (Err Mismatch) a b text w = begins a b text w

pub returns-else-shown-2-clause-front : goal.returns-else-shown-2-clause-front
returns-else-shown-2-clause-front g c =
    let shown = c.args.shown.now in
    let plan = c.args.scenario.now in
    let text : lines_shown shown plan ≡ run_text shown plan =
    ap (λ t. if t then traces_shown shown plan else lines_shown shown plan) (sym c.if-shown-2.false) ∙ ap (λ t. if t then rows_shown shown.user plan else (if shown.trace then traces_shown shown plan else lines_shown shown plan)) (sym c.if-shown.false) in
    front c.write_replies.result (g.W.Write.contents c.args.writer.now) (g.W.Write.contents c.write_replies.new.writer) (run_text shown plan)
    (subst (λ xs. Writes c.write_replies.result (g.W.Write.contents c.args.writer.now) (g.W.Write.contents c.write_replies.new.writer) xs) text c.write_replies.ensures)
