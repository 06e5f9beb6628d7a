-- A script for each user with steps, and the answers of its transcript.
use Rattle.std.specs.{Prelude.{◌≡◌, ℕ, ◌+◌, ◌<◌, ◌^◌, Bool, true, false, List, [], ◌∷◌, length, map, filter, Option, IfSome, String, string_bytes}, Global.Global, List.AllByRecursion}
use Rattle.{pid_blocks.specs.Blocks.users, requests.specs.{Run.{asked_by}}, sessions.specs.declared.script.Transcript.Transcript}
use Rattle.step_types.specs.{Plain.UserStep, Plain.PlainStep, Replies.is_memory, declared.Reply.Reply}
use Rattle.{scenario_text.specs.Plan.Plan, scenario_runs.specs.{Lines.Answered, Runs.{answers_of, shown}, declared.running.LineOptions.LineOptions}, scenario.specs.Grouped.answers_by}
use Rattle.scenario.specs.{Unseen.unseen_in, declared.lines.{LineReport.LineReport, LineDraft.LineDraft, UserLines.UserLines}}

-- a user's steps, in order
abbrev pub steps_of : ℕ → List UserStep → List PlainStep
steps_of u list = map (λ a. a.step) (asked_by u list)

abbrev pub some_steps : List PlainStep → Bool
some_steps [] = false
some_steps (step ∷ rest) = true

abbrev pub has_steps : ℕ × List PlainStep → Bool
has_steps s = some_steps s.1

-- each user with steps, by rising number, with these steps
abbrev pub scripts_in : List UserStep → List (ℕ × List PlainStep)
scripts_in list = filter has_steps (map (λ u. (u, steps_of u list)) users)

-- replies to a user
abbrev pub told_to : ℕ → List Reply → List Answered
told_to u rs = map (λ r. record { uid = u; reply = r }) rs

-- the replies that a user's lines were made from
abbrev pub replies_in : UserLines → List Reply
replies_in lines = unseen_in lines.replies

-- the text of a transcript
abbrev pub text_in : Transcript UserLines → Option (String Global)
text_in t = t.replies.text

-- memory ran out for none of these replies
abbrev pub AreMade : List Reply → Type 0
AreMade rs = AllByRecursion (λ r. is_memory r ≡ false) rs

-- the lines, if there are any, are those that the options show of the replies, and memory ran out for none of these
abbrev pub Shows : LineOptions → ℕ → UserLines → Type 0
Shows options u lines = IfSome lines.text (λ s. (string_bytes s ≡ shown options.style options.user (told_to u (replies_in lines))) × AreMade (replies_in lines))

-- the draft has the lines so far, if memory didn't run out, and room for `left` more replies
abbrev pub DrawnUp : LineDraft → LineReport → ℕ → ℕ → List Reply → Type 0
DrawnUp d r u left rs = (d.options ≡ r.options) × (d.uid ≡ u) × (unseen_in d.replies ≡ rs) × (d.number ≡ length rs) × (d.number + left < 2 ^ 64)
    × IfSome d.text (λ s. (string_bytes s ≡ shown d.options.style d.options.user (told_to u rs)) × AreMade rs)

-- no step ran out of memory
abbrev pub IsMade : Transcript UserLines → Type 0
IsMade t = AreMade (replies_in t.replies)

-- the answers of a transcript
abbrev pub told_by : Transcript UserLines → List Answered
told_by t = told_to t.uid (replies_in t.replies)

-- the answers of each script's user, by rising user
abbrev pub answers_by_scripts : Plan → List (List Answered)
answers_by_scripts plan = map (λ s. answers_by s.0 (answers_of plan)) (scripts_in plan.steps)
