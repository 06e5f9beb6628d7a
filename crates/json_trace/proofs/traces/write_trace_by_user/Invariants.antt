use Rattle.std.proofs.Common.{drop}
use Rattle.std.specs.List.{flat_map}
use Rattle.scenario_runs.specs.Parts.{Parted}
use Rattle.json_trace.specs.Traces.{own_trace}
use Rattle.json_trace.proofs.traces.write_trace_by_user.Given as goal

-- the lines of the users that are left
abbrev pub invariant-loop-told : goal.invariant-loop-told
invariant-loop-told g l =
    Parted (g.W.Write.contents l.fn.writer) (g.W.Write.contents l.writer) l.part.text.items (flat_map (λ told. own_trace l.user told.0 l.scenario) (drop l.told-index l.replies)) (flat_map (λ told. own_trace l.user told.0 l.scenario) l.replies) l.part.is_begun
