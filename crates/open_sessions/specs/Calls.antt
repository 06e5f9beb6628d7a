-- What an open session is, and what its calls do.
use Rattle.std.specs.Prelude.{⊤, ◌≡◌, ℕ, ◌-◌, ◌+◌, ◌^◌, List, Option, Some, None, Ok, Err, slice_index, slice_set}
use Rattle.{pid_blocks.specs.Users.IsUser, requests.specs.{Hosts.Steps as HostSteps, Machine.Machine, View.view}, scenario_runs.specs.declared.style.Style.Style}
use Rattle.user_hosts.specs.Made.{CopiesUser as HostCopiesUser}
use Rattle.step_types.specs.{Plain.UserStep, Plain.PlainStep, declared.Reply.Reply}
use Rattle.{scenario_text.specs.{declared.fault.Fault.Fault, OneStep.IsStep}, open_sessions.specs.{Answers.{LineReply, AnswersLine, answer_text, reply_text, made_after}, StepLines.{HasNames, as_line, line_of}, ViewWords.view_words}}

-- a host, how many answers each of the 64 users has had, the last answer, and its step: none if it refused a line
pub record OpenSession : Type 0 where
  pub host : Machine
  pub made : List ℕ
  pub last : Option LineReply
  pub asked : Option UserStep

abbrev pub last_text : Style → OpenSession → List ℕ
last_text style s = answer_text style s.made s.last

-- a step of a user was made: the reply and the host are the machine's; or, if the step takes memory and the machine
-- wouldn't refuse it, ENOMEM and the host as it was. The reply is counted, and is the last answer, to this step.
pub record Steps (u : ℕ) (step : PlainStep) (s t : OpenSession) : Type 0 where
  pub reply : Reply
  pub user : IsUser u
  pub made : HostSteps u step s.host t.host reply
  pub counts : t.made ≡ made_after s.made (Ok (record { uid = u; reply = reply }))
  pub number : slice_index t.made (u - 1001) ≡ slice_index s.made (u - 1001) + 1
  pub last : t.last ≡ Some (Ok (record { uid = u; reply = reply }))
  pub asked : t.asked ≡ Some (record { uid = u; step = step })

-- the step that the line is; none if it isn't one
abbrev pub IsAsked : List ℕ → Option UserStep → Type 0
IsAsked line (Some a) = IsStep line (Ok a)
IsAsked line None = (f : Fault) × IsStep line (Err f)

-- a line was answered: a reply is counted, and the answer is the last one
pub record Answers (line : List ℕ) (s t : OpenSession) : Type 0 where
  pub reply : LineReply
  pub answers : AnswersLine line s.host reply t.host
  pub counts : t.made ≡ made_after s.made reply
  pub last : t.last ≡ Some reply
  pub asked : IsAsked line t.asked
  pub text : (style : Style) → last_text style t ≡ reply_text style s.made reply

-- a user sees what the source shows, and has had as many answers as there; all others see and have had what they did
pub record CopiesUser (u : ℕ) (s source t : OpenSession) : Type 0 where
  pub host : HostCopiesUser u s.host source.host t.host
  pub made : t.made ≡ slice_set s.made (u - 1001) (slice_index source.made (u - 1001))
  pub last : t.last ≡ None
  pub asked : t.asked ≡ None

-- a user has had the most answers that are counted
abbrev pub IsFull : ℕ → OpenSession → Type 0
IsFull u s = slice_index s.made (u - 1001) + 1 ≡ 2 ^ 64

-- the line is a step of a user who has had the most answers that are counted
abbrev pub FullFor : List ℕ → OpenSession → Type 0
FullFor line s = (a : UserStep) × IsStep line (Ok a) × IsFull a.uid s

-- the line of the last answer's step, which is read as this step
abbrev pub LineOf : Option UserStep → List ℕ → Type 0
LineOf None line = ⊥
LineOf (Some a) line = (line ≡ line_of a) × IsStep line (Ok (record a { step = as_line a.step }))

-- no step was asked, or one with a bit that has no name
abbrev pub NoLine : Option UserStep → Type 0
NoLine None = ⊤
NoLine (Some a) = ¬ HasNames a.step

-- all that a user sees of a session's host, as numbers
abbrev pub state_of : ℕ → OpenSession → List ℕ
state_of u s = view_words (view u s.host)
