use Rattle.std.proofs.Common.{◌≡◌, ◌+◌, ◌++◌, ℕ, List, Option, drop, length, map}
use Rattle.std.specs.Prelude.{zip}
use Rattle.step_types.specs.declared.Reply.{Reply}
use Rattle.scenario_text.specs.Plan.{asked}
use Rattle.scenario_runs.specs.{Parts.Parted, Runs.{answered, paired}}
use Rattle.scenario_runs.proofs.LineLemmas.{Counted}
use Rattle.json_trace.specs.Traces.{answers_to, chosen, traced_after, trace_shown}
use Rattle.json_trace.proofs.traces.add_lines.Given as goal

-- `before` has the users of the steps so far, and `rs` the replies to the steps that are left
abbrev pub invariant-loop-asked : goal.invariant-loop-asked
invariant-loop-asked g l = record {
  before : List ℕ;
  rs : List Reply;
  counted : Counted l.made before;
  index : l.index ≡ length before;
  few : length before + length l.asked-iterator ≡ l.count;
  left : map answered (drop l.told l.replies) ≡ answers_to l.user (paired (map asked l.asked-iterator) rs);
  parted : (first : Option (List ℕ)) (rest all : List ℕ) → Parted first (g.W.Write.contents l.fn.writer) l.fn.part.text.items (trace_shown l.user l.scenario ++ rest) all l.fn.part.is_begun
      → Parted first (g.W.Write.contents l.writer) l.part.text.items (chosen l.user (traced_after before (zip (map asked l.asked-iterator) rs)) ++ rest) all l.part.is_begun;
}
