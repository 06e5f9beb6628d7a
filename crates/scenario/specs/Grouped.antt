-- The text of a run, grouped by user.
use Rattle.std.specs.{Prelude.{ℕ, ◌==◌, List, map, filter, Option, Some, None}, List.concat}
use Rattle.{pid_blocks.specs.Blocks.users, scenario_runs.specs.{Lines.{Answered, lines, lines_of, text_of}, Runs.shown, declared.style.Style.Style}}

-- the text, grouped by rising user; the numbers of the lines stay
abbrev pub grouped : Style → List Answered → List ℕ
grouped style answers = concat (map (λ u. text_of (lines_of u (lines style answers))) users)

-- what `shown` is of the answers, grouped by rising user
abbrev pub shown_grouped : Style → Option ℕ → List Answered → List ℕ
shown_grouped style None answers = grouped style answers
shown_grouped style (Some user) answers = shown style (Some user) answers

-- a user's answers, in order
abbrev pub answers_by : ℕ → List Answered → List Answered
answers_by u answers = filter (λ a. a.uid == u) answers
