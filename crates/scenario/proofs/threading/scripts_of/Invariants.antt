use Rattle.std.proofs.Common.{◌≡◌, ℕ, ◌++◌, List, map, drop}
use Rattle.scenario.proofs.CommonNames.{into_iter_items, users, Users, PlainStep, with_policies, policies_in, boxed_script}
use Rattle.scenario_text.specs.Plan.{asked as as_asked}
use Rattle.scenario.proofs.ScriptLemmas.{script_of}
use Rattle.scenario.proofs.threading.scripts_of.Given as goal

-- the steps that were given out, and those that are left
abbrev pub invariant-loop-bare_step : goal.invariant-loop-bare_step
invariant-loop-bare_step g l =
    let left = with_policies (drop l.bare_step-index l.bare_steps) (into_iter_items l.rest) in
    (done : List (ℕ × PlainStep)) × (map as_asked done ++ left ≡ l.scenario.steps) × (policies_in left ≡ into_iter_items l.rest)
    × Users (map as_asked done) × (map boxed_script l.scripts.items ≡ map (script_of (map as_asked done)) users)
