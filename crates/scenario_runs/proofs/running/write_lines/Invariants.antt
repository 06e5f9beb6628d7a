use Rattle.scenario_runs.proofs.CommonNames.{◌≡◌, ℕ, List, length, map, drop, string_bytes, answered, shown}
use Rattle.scenario_runs.proofs.LineLemmas.{Counted, shown_after}
use Rattle.scenario_runs.specs.Parts.{Parted}
use Rattle.scenario_runs.proofs.running.write_lines.Given as goal

-- `before` are the users of the replies so far
abbrev pub invariant-loop-reply : goal.invariant-loop-reply
invariant-loop-reply g l = record {
  before : List ℕ;
  few : length before ≡ l.reply-index;
  counted : Counted l.made before;
  parted : Parted (g.W.Write.contents l.fn.writer) (g.W.Write.contents l.writer) (string_bytes l.text)
      (shown_after l.options.style l.options.user before (map answered (drop l.reply-index l.replies))) (shown l.options.style l.options.user (map answered l.replies)) l.is_begun;
}
