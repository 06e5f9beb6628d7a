use Rattle.std.proofs.Common.{ℕ, List, ◌≡◌, ◌∙◌, ap, subst, sym, if◌then◌else◌}
use Rattle.std.specs.List.{flat_map}
use Rattle.scenario.specs.Scripts.{scripts_in}
use Rattle.scenario_runs.specs.Runs.{Writes}
use Rattle.json_trace.specs.Traces.{own_trace, trace_grouped, trace_shown}
use Rattle.tracehost.specs.Runs.{traces_shown}
use Rattle.tracehost.proofs.TraceLemmas.{Told, each_told, grouped}
use Rattle.tracehost.proofs.write_traces.Goals as goal

pub write_trace_by_user-requires : goal.write_trace_by_user-requires
write_trace_by_user-requires g c =
    let plan = c.args.scenario.now in
    rw c.as_slice.ensures.value (each_told plan c.in_ok-replies.replies.items (scripts_in plan.steps) c.in_ok-replies.ensures.replies c.in_ok-replies.ensures.users)

pub returns-in_ok-replies : goal.returns-in_ok-replies
returns-in_ok-replies g c =
    let plan = c.args.scenario.now in
    let user = c.args.shown.now.user in
    let lines : flat_map (λ (told : Told). own_trace user told.0 plan) c.as_slice.result.now ≡ trace_grouped user plan =
    ap (flat_map (λ (told : Told). own_trace user told.0 plan)) c.as_slice.ensures.value ∙ grouped user plan c.in_ok-replies.replies.items c.assert_user.ensures c.in_ok-replies.ensures.users in
    let text : trace_grouped user plan ≡ traces_shown c.args.shown.now plan = ap (λ t. if t then trace_grouped user plan else trace_shown user plan) (sym c.if-shown.true) in
    subst (λ xs. Writes c.write_trace_by_user.result (g.W.Write.contents c.args.writer.now) (g.W.Write.contents c.write_trace_by_user.new.writer) xs) (lines ∙ text) c.write_trace_by_user.ensures.writes
