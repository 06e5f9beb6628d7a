-- The traces of users with steps, and those of all users.
use Rattle.std.proofs.Common.{◌≡◌, ◌≢◌, ℕ, ◌+◌, ◌<◌, ◌≤◌, ◌==◌, List, [], ◌∷◌, ◌++◌, ◌∙◌, None, Option, Some, true, false, ap, ap₂, arith, drop, filter, get_or, map, refl, sym, if◌then◌else◌}
use Rattle.std.specs.Prelude.{IfSome, Vec, zip}
use Rattle.std.specs.Global.{Global}
use Rattle.std.specs.List.{concat, flat_map, AllByRecursion}
use Rattle.std.proofs.lemmas.Bool.Decides.{nat_tests}
use Rattle.pid_blocks.specs.Users.{IsUser}
use Rattle.requests.specs.{Machine.empty, Run.{asked_by, replies}}
use Rattle.step_types.specs.{Plain.{PlainStep, UserStep}, declared.Reply.Reply}
use Rattle.scenario_text.specs.Plan.{Plan}
use Rattle.scenario_runs.specs.Runs.{answered, answers_of}
use Rattle.scenario.specs.{Grouped.answers_by, Scripts.{answers_by_scripts, scripts_in}}
use Rattle.scenario.proofs.{GroupLemmas.one_among, ScriptLemmas.over_scripts}
use Rattle.json_trace.specs.Traces.{answers_to, chosen, own_trace, traced_after, trace_grouped, trace_shown}

-- a user with the replies to the user's steps
abbrev pub Told : Type 0
Told = ℕ × Vec (ℕ × Reply) Global

-- a user without steps has no lines
unasked : (u : ℕ) (before : List ℕ) (steps : List UserStep) (rs : List Reply) → asked_by u steps ≡ [] → chosen (Some u) (traced_after before (zip steps rs)) ≡ []
unasked u before [] rs none = refl
unasked u before (a ∷ steps) [] none = refl
unasked u before (a ∷ steps) (r ∷ rs) none = grind (arith, nat_tests, none, unasked u (a.uid ∷ before) steps rs)

none_of : (plan : Plan) (u : ℕ) → asked_by u plan.steps ≡ [] → trace_shown (Some u) plan ≡ []
none_of plan u none = unasked u [] plan.steps (replies plan.steps (empty plan.settings)) none

own_none : (user : Option ℕ) (plan : Plan) (u : ℕ) → asked_by u plan.steps ≡ [] → own_trace user u plan ≡ []
own_none None plan u none = none_of plan u none
own_none (Some w) plan u none = grind (arith, nat_tests, none_of plan u none)

-- the lines of all scripts' users are those of all users
by_scripts : (user : Option ℕ) (plan : Plan) → IfSome user (λ u. IsUser u) → flat_map (λ u. own_trace user u plan) (map (λ (s : ℕ × List PlainStep). s.0) (scripts_in plan.steps)) ≡ trace_grouped user plan
by_scripts None plan known = over_scripts (λ u. own_trace None u plan) 64 1001 plan.steps (own_none None plan)
by_scripts (Some w) plan known =
    over_scripts (λ u. own_trace (Some w) u plan) 64 1001 plan.steps (own_none (Some w) plan)
    ∙ one_among (λ u. own_trace (Some w) u plan) 64 1001 w (λ v off. grind (arith, nat_tests, off)) (λ below. absurd (omega (arith, below, known.0, known.1))) (λ above. absurd (omega (arith, above, known.0, known.1)))
    ∙ own
  where
    own : own_trace (Some w) w plan ≡ trace_shown (Some w) plan
    own = grind (arith, nat_tests)

over_users : (user : Option ℕ) (plan : Plan) (ts : List Told) → flat_map (λ (told : Told). own_trace user told.0 plan) ts ≡ flat_map (λ u. own_trace user u plan) (map (λ (told : Told). told.0) ts)
over_users user plan [] = refl
over_users user plan (t ∷ ts) = ap (λ xs. own_trace user t.0 plan ++ xs) (over_users user plan ts)

pub grouped : (user : Option ℕ) (plan : Plan) (ts : List Told) → IfSome user (λ u. IsUser u) → map (λ (told : Told). told.0) ts ≡ map (λ (s : ℕ × List PlainStep). s.0) (scripts_in plan.steps)
    → flat_map (λ (told : Told). own_trace user told.0 plan) ts ≡ trace_grouped user plan
grouped user plan ts known users = over_users user plan ts ∙ ap (flat_map (λ u. own_trace user u plan)) users ∙ by_scripts user plan known

-- each of them has all of the user's replies
pub each_told : (plan : Plan) (ts : List Told) (ss : List (ℕ × List PlainStep)) → map (λ (told : Told). map answered told.1.items) ts ≡ map (λ (s : ℕ × List PlainStep). answers_by s.0 (answers_of plan)) ss
    → map (λ (told : Told). told.0) ts ≡ map (λ (s : ℕ × List PlainStep). s.0) ss → AllByRecursion (λ (told : Told). map answered told.1.items ≡ answers_to (Some told.0) (answers_of plan)) ts
each_told plan [] ss same users = tt
each_told plan (t ∷ ts) [] same users = absurd (cc (users))
each_told plan (t ∷ ts) (s ∷ ss) same users =
    let user : t.0 ≡ s.0 = ap (λ xs. get_or xs 0 0) users in
    let first : map answered t.1.items ≡ answers_by s.0 (answers_of plan) = ap (λ xs. get_or xs 0 []) same in (
      first ∙ ap (λ u. answers_by u (answers_of plan)) (sym user),
      each_told plan ts ss (ap (drop 1) same) (ap (drop 1) users),
    )
