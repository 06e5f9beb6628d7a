use Rattle.scenario_runs.proofs.CommonNames.{◌≡◌, ◌++◌, ℕ, List, length, drop, string_bytes, into_iter_items, replies, with_policies, policies_in, answers_of, paired, shown}
use Rattle.scenario_runs.proofs.LineLemmas.{Counted, shown_after}
use Rattle.scenario_runs.proofs.running.text_of.Given as goal

-- `before` are the users of the replies so far
abbrev pub invariant-loop-bare_step : goal.invariant-loop-bare_step
invariant-loop-bare_step g l = let left = with_policies (drop l.bare_step-index l.bare_steps) (into_iter_items l.rest) in record {
  before : List ℕ;
  few : length before ≡ l.bare_step-index;
  counted : Counted l.made before;
  text : string_bytes l.text ++ shown_after l.options.style l.options.user before (paired left (replies left l.host)) ≡ shown l.options.style l.options.user (answers_of l.scenario);
  each : policies_in left ≡ into_iter_items l.rest;
}
