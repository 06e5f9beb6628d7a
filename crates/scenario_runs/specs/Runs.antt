-- The output of a run.
use Rattle.std.specs.Prelude.{⊤, ◌≡◌, ℕ, List, take, map, zip, Option, Some, None, Result, Ok, Err}
use Rattle.std.specs.Io.KnownBytes.{Appends, Keeps}
use Rattle.stop_handlers.specs.declared.Rule.{Rule}
use Rattle.requests.specs.{Making.Makes, Machine.Machine, Machine.empty, Run.replies}
use Rattle.step_types.specs.{Plain.UserStep, Plain.PlainStep, Plain.with_handler, declared.Reply.Reply, declared.step.Step.Step}
use Rattle.scenario_runs.specs.{declared.running.RunFault.RunFault, declared.running.RunFault.TheVariants.Write, Lines.Answered, Lines.text, Lines.text_of, Lines.lines, Lines.lines_of}
use Rattle.scenario_runs.specs.declared.style.Style.{Style}
use Rattle.scenario_text.specs.Plan.{Plan, first, policies_after}

-- a reply to a user
abbrev pub answered : ℕ × Reply → Answered
answered r = record { uid = r.0; reply = r.1 }

-- the text of all, or of one user; the numbers of the lines stay
abbrev pub shown : Style → Option ℕ → List Answered → List ℕ
shown style None answers = text style answers
shown style (Some user) answers = text_of (lines_of user (lines style answers))

-- the steps' users with the replies
abbrev pub paired : List UserStep → List Reply → List Answered
paired steps list = map (λ p. record { uid = p.0.uid; reply = p.1 }) (zip steps list)

-- the answers of the machine, from an unused host
abbrev pub answers_of : Plan → List Answered
answers_of plan = paired plan.steps (replies plan.steps (empty plan.settings))

-- the writer has got the text, or the beginning of it if a write failed, and else nothing
abbrev pub Writes : Result ⊤ RunFault → Option (List ℕ) → Option (List ℕ) → List ℕ → Type 0
Writes (Ok done) old new text = Appends old new text
Writes (Err Write) old new text = (n : ℕ) × Appends old new (take n text)
Writes (Err e) old new text = Keeps old new

-- the exit status of a run that failed
abbrev pub run_fault_status : RunFault → ℕ
run_fault_status fault = 3

-- ---- a step with its handler

-- r is the step with the next handler, and new are the handlers left; there is none if the step needs a handler and none
-- is left
abbrev pub IsBound : Step ⊤ → List (List Rule) → List (List Rule) → Option PlainStep → Type 0
IsBound bare_step old new r = (new ≡ policies_after bare_step old) × (r ≡ with_handler (first old) bare_step)

-- the host makes this step of the user with this reply; if there is none, it stays as it is
abbrev pub IsAnswered : ℕ → Step ⊤ → List (List Rule) → List (List Rule) → Machine → Machine → Option Reply → Type 0
IsAnswered u bare_step old new m n r = (new ≡ policies_after bare_step old) × Makes u (with_handler (first old) bare_step) m n r
