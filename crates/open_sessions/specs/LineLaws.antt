-- The answers of a session, compared with those of scenarios and of hosts that users share.
use Rattle.std.specs.{Prelude.{◌≡◌, false, List, ℕ, map, Ok, IfOk}, List.{AllByRecursion, AllZip}}
use Rattle.{requests.specs.{Isolation.Private, Machine.{Machine, empty}}, visibility.specs.Runs.reply_given}
use Rattle.step_types.specs.{Plain.UserStep, Replies.is_memory, declared.Settings.Settings}
use Rattle.{scenario_text.specs.OneStep.IsStep, scenario_runs.specs.{declared.style.Style.Style, Lines.text, Runs.answers_of}, open_sessions.specs.{Answers.LineReply, Laws.{StepsIn, by_line, replies_in}}}
use Rattle.open_sessions.specs.Sessions.{AnswersLines, text_of}

-- each line is the step in its place
abbrev pub AreSteps : List (List ℕ) → List UserStep → Type 0
AreSteps lines steps = AllZip (λ line a. IsStep line (Ok a)) lines steps

-- an answer that isn't the reply ENOMEM
abbrev pub IsMade : LineReply → Type 0
IsMade answer = IfOk answer (λ a. is_memory a.reply ≡ false)

-- if every line is a step and memory didn't run out, the text is that of the scenario with these steps
abbrev pub AsScenario : Type 0
AsScenario = (style : Style) (settings : Settings) (lines : List (List ℕ)) (steps : List UserStep) (rs : List LineReply) (k : Machine)
    → AreSteps lines steps → AnswersLines lines (empty settings) rs k → AllByRecursion IsMade rs
    → text_of style rs ≡ text style (answers_of (record { settings = settings; steps = steps }))

-- each user's replies, and the user's view at the end, are those of the user's own steps without any other user
abbrev pub SessionsArePrivate : Type 0
SessionsArePrivate = (settings : Settings) (lines : List (List ℕ)) (rs : List LineReply) (k : Machine) → AnswersLines lines (empty settings) rs k
    → (steps : List UserStep) × StepsIn (map by_line lines) steps × Private steps (map (λ r. reply_given r) (replies_in rs)) (empty settings) k
