-- The lines of a run with their steps.
use Rattle.std.specs.Prelude.{ℕ, ◌==◌, ◌+◌, List, [], ◌∷◌, ◌++◌, Option, Some, None, codes, count_by, filter, length, map, zip, if◌then◌else◌}
use Rattle.std.specs.List.{concat}
use Rattle.pid_blocks.specs.Blocks.{users}
use Rattle.step_types.specs.{Plain.{PlainStep, UserStep}, declared.Reply.Reply}
use Rattle.requests.specs.{Machine.empty, Run.replies}
use Rattle.scenario_text.specs.Plan.{Plan}
use Rattle.scenario_runs.specs.Lines.{Answered, Line, lines_of, shows, text_of}
use Rattle.reply_json.specs.{Objects.{Member, json_text, natural, object_of}, Replies.{answer_members, place_members}}
use Rattle.open_sessions.specs.StepLines.{policy_of, step_keys}

-- the number of a step among all users' steps, and the step
abbrev pub step_members : ℕ → PlainStep → List Member
step_members index s = (codes "index", natural index) ∷ (codes "asked", object_of (step_keys s (policy_of s))) ∷ []

-- the members of a user's n-th step and its reply
abbrev pub traced_members : ℕ → ℕ → UserStep → Reply → List Member
traced_members n index a r = place_members a.uid n ++ (step_members index a.step ++ answer_members r)

-- the line; 10 is a line feed
abbrev pub traced_line : ℕ → ℕ → UserStep → Reply → Line
traced_line n index a r = record { uid = a.uid; text = json_text (object_of (traced_members n index a r)) ++ (10 ∷ []) }

-- the lines of steps and their replies; `before` has the users of the steps before
abbrev pub traced_after : List ℕ → List (UserStep × Reply) → List Line
traced_after before [] = []
traced_after before (p ∷ rest) = traced_line (count_by (λ u. u == p.0.uid) before + 1) (length before + 1) p.0 p.1 ∷ traced_after (p.0.uid ∷ before) rest

-- the lines of the machine's run, from an unused host
abbrev pub traced : Plan → List Line
traced plan = traced_after [] (zip plan.steps (replies plan.steps (empty plan.settings)))

-- the text of all lines, or of one user's
abbrev pub chosen : Option ℕ → List Line → List ℕ
chosen None lines = text_of lines
chosen (Some user) lines = text_of (lines_of user lines)

abbrev pub trace_shown : Option ℕ → Plan → List ℕ
trace_shown user plan = chosen user (traced plan)

-- the same of all lines, grouped by rising user
abbrev pub trace_grouped : Option ℕ → Plan → List ℕ
trace_grouped None plan = concat (map (λ u. chosen (Some u) (traced plan)) users)
trace_grouped (Some user) plan = trace_shown (Some user) plan

-- the lines of a user, if they are shown
abbrev pub own_trace : Option ℕ → ℕ → Plan → List ℕ
own_trace user u plan = if shows user u then trace_shown (Some u) plan else []

-- all answers, or those to one user
abbrev pub answers_to : Option ℕ → List Answered → List Answered
answers_to None answers = answers
answers_to (Some user) answers = filter (λ a. a.uid == user) answers
