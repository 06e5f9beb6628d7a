use Rattle.std.proofs.Common.{◌≡◌, ◌+◌, ℕ, List, None, Option, get_or, length, map, true}
use Rattle.lwp_table.specs.Lwps.{Once}
use Rattle.pid_blocks.specs.{Blocks.slot, Users.IsUser}
use Rattle.requests.specs.{Isolation.Apart, View.view}
use Rattle.scenario_text.specs.Plan.{asked}
use Rattle.scenario_runs.specs.{Lines.shows, Parts.Parted}
use Rattle.scenario_runs.proofs.LineLemmas.{Counted}
use Rattle.json_trace.specs.{Changes.{rows_after, rows_shown}, Seen.{lwps_in, processes_in}, Traces.chosen}
use Rattle.json_trace.proofs.StateLemmas.{HasSeen}
use Rattle.json_trace.proofs.states.add_lines.Given as goal

-- `before` has the users of the steps so far; each user who is shown has seen what the host shows
abbrev pub invariant-loop-asked : goal.invariant-loop-asked
invariant-loop-asked g l = record {
  before : List ℕ;
  counted : Counted l.made before;
  index : l.index ≡ length before;
  few : length before + length l.asked-iterator ≡ l.count;
  apart : Apart l.session.host;
  long : length l.seen.views.items ≡ 64;
  seen : (u : ℕ) → IsUser u → shows l.user u ≡ true → HasSeen (get_or l.seen.views.items (slot u) None) (view u l.session.host);
  parted : (first : Option (List ℕ)) (all : List ℕ) → Parted first (g.W.Write.contents l.fn.writer) l.fn.part.text.items (rows_shown l.user l.scenario) all l.fn.part.is_begun
      → Parted first (g.W.Write.contents l.writer) l.part.text.items (chosen l.user (rows_after before (map asked l.asked-iterator) l.session.host)) all l.part.is_begun;
}
