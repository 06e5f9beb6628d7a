-- The lines of a run, and what they are compared with.
use Rattle.std.specs.Prelude.{◌≡◌, ◌≢◌, ℕ, List, Option, Some, None, Vec, take, if◌then◌else◌}
use Rattle.std.specs.declared.alloc.Global.{Global}
use Rattle.scenario_runs.specs.Runs.{answers_of, shown}
use Rattle.scenario_text.specs.Plan.{Plan}
use Rattle.json_trace.specs.{Changes.rows_shown, Traces.{trace_grouped, trace_shown}}
use Rattle.scenario.specs.Grouped.{shown_grouped}
use Rattle.tracehost.specs.declared.asking.Selection.{Selection}

-- the lines of the replies: in the steps' order, or with --threads user by user
abbrev pub lines_shown : Selection → Plan → List ℕ
lines_shown selection plan = if selection.threads
    then shown_grouped selection.style selection.user (answers_of plan)
    else shown selection.style selection.user (answers_of plan)

-- the lines with the steps
abbrev pub traces_shown : Selection → Plan → List ℕ
traces_shown selection plan = if selection.threads then trace_grouped selection.user plan else trace_shown selection.user plan

-- the lines that are asked for; those with the rows are in the steps' order
abbrev pub run_text : Selection → Plan → List ℕ
run_text selection plan = if selection.rows then rows_shown selection.user plan
    else (if selection.trace then traces_shown selection plan else lines_shown selection plan)

-- what a text is that is compared while it is written: so many bytes, all as expected; or all bytes
abbrev pub kept : List ℕ → ℕ → Option (Vec ℕ Global) → List ℕ
kept expected same None = take same expected
kept expected same (Some text) = text.items

-- none if the text is the expected one, and else the text
abbrev pub Compared : (text : List ℕ) → Option (List ℕ) → Option (List ℕ) → Type 0
Compared text expected None = expected ≡ Some text
Compared text expected (Some got) = (got ≡ text) × (expected ≢ Some text)
