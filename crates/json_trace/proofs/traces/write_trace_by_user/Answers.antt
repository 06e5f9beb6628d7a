use Rattle.std.proofs.Common.{ℕ, List, Option, ◌≡◌, ◌++◌, ◌+◌, ◌<◌, ◌∙◌, [], true, false, ap, drop, get_or, length, sym, subst, if◌then◌else◌, Some}
use Rattle.std.specs.Prelude.{Vec}
use Rattle.std.specs.Global.{Global}
use Rattle.std.specs.List.{flat_map}
use Rattle.std.proofs.lemmas.List.{at_drop_more}
use Rattle.step_types.specs.declared.Reply.{Reply}
use Rattle.scenario_text.specs.Plan.{Plan}
use Rattle.scenario_runs.specs.{Lines.shows, Parts.Parted}
use Rattle.json_trace.specs.Traces.{own_trace, trace_shown}
use Rattle.json_trace.proofs.WriteLemmas.{writes_handed}
use Rattle.json_trace.proofs.traces.write_trace_by_user.Goals as goal
use Rattle.json_trace.proofs.traces.write_trace_by_user.Goals.{then-is_shown+in_ok-add_lines, else-is_shown}

-- users with their replies
abbrev Told : Type 0
Told = ℕ × Vec (ℕ × Reply) Global

-- the lines of the users from a place on
abbrev from : Option ℕ → Plan → List Told → ℕ → List ℕ
from user plan es i = flat_map (λ (told : Told). own_trace user told.0 plan) (drop i es)

next : (user : Option ℕ) (plan : Plan) (es : List Told) (i : ℕ) (e : Told) → i < length es → get_or es i e ≡ e → from user plan es i ≡ own_trace user e.0 plan ++ from user plan es (i + 1)
next user plan es i e more here = at_drop_more (flat_map (λ (told : Told). own_trace user told.0 plan)) es i e more ∙ ap (λ (x : Told). own_trace user x.0 plan ++ from user plan es (i + 1)) here

shown : (user : Option ℕ) (plan : Plan) (es : List Told) (i : ℕ) (e : Told) → i < length es → get_or es i e ≡ e → shows user e.0 ≡ true → from user plan es i ≡ trace_shown (Some e.0) plan ++ from user plan es (i + 1)
shown user plan es i e more here is = next user plan es i e more here ∙ ap (λ t. (if t then trace_shown (Some e.0) plan else []) ++ from user plan es (i + 1)) is

other : (user : Option ℕ) (plan : Plan) (es : List Told) (i : ℕ) (e : Told) → i < length es → get_or es i e ≡ e → shows user e.0 ≡ false → from user plan es i ≡ from user plan es (i + 1)
other user plan es i e more here is = next user plan es i e more here ∙ ap (λ t. (if t then trace_shown (Some e.0) plan else []) ++ from user plan es (i + 1)) is

pub returns-in_err-add_lines-clause-writes : goal.returns-in_err-add_lines-clause-writes
returns-in_err-add_lines-clause-writes g c =
    let at = c.loop-told in
    let es = c.args.replies.now in
    let plan = c.args.scenario.now in
    let old = g.W.Write.contents c.args.writer.now in
    let now = g.W.Write.contents at.writer in
    let all = from c.args.user plan es 0 in
    let lines = shown c.args.user plan es at.told-index c.told-item.result c.loop-told-test.true (sym c.told-item.is) (sym c.is_shown.ensures ∙ c.if-is_shown.true) in
    let part = subst (λ xs. Parted old now at.part.text.items xs all at.part.is_begun) lines at.invariant in
    writes_handed c.from_residual-in_err-add_lines.result c.in_err-add_lines.field-0.0 old (g.W.Write.contents c.add_lines.new.writer) all c.from_residual-in_err-add_lines.ensures.1
    (c.in_err-add_lines.ensures.err old (from c.args.user plan es (at.told-index + 1)) all part)

pub loop-told-preserved : goal.loop-told-preserved
loop-told-preserved g c =
    let at = c.loop-told in
    let es = c.args.replies.now in
    let plan = c.args.scenario.now in
    let old = g.W.Write.contents c.args.writer.now in
    let now = g.W.Write.contents at.writer in
    let all = from c.args.user plan es 0 in
    elim c.if-is_shown.branch [
      | then-is_shown+in_ok-add_lines w ↦
          let lines = shown c.args.user plan es at.told-index c.told-item.result c.loop-told-test.true (sym c.told-item.is) (sym c.is_shown.ensures ∙ w.if-is_shown.true) in
          let part = subst (λ xs. Parted old now at.part.text.items xs all at.part.is_begun) lines at.invariant in
          rw (w.writer-is, w.part-is) (w.in_ok-add_lines.ensures.ok old (from c.args.user plan es (at.told-index + 1)) all part)
      | else-is_shown w ↦
          let lines = other c.args.user plan es at.told-index c.told-item.result c.loop-told-test.true (sym c.told-item.is) (sym c.is_shown.ensures ∙ w.if-is_shown.false) in
          rw (w.writer-is, w.part-is) (subst (λ xs. Parted old now at.part.text.items xs all at.part.is_begun) lines at.invariant)
    ]
