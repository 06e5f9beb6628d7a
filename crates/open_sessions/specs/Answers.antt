-- The answer to a line, and its text.
use Rattle.std.specs.Prelude.{unwrap_or, option_map, ℕ, ◌-◌, ◌+◌, List, [], ◌∷◌, ◌++◌, Option, Some, None, Result, Ok, Err, codes, take, drop, length, slice_index, slice_set}
use Rattle.{pid_blocks.specs.Users.IsUser, requests.specs.{Machine.Machine}, visibility.specs.Runs.{reply_given, MakesStep}}
use Rattle.step_types.specs.{Plain.UserStep, declared.Reply.Reply, declared.Reply.TheVariants.Lwps, declared.Reply.TheVariants.Pids}
use Rattle.{reply_json.specs.{Objects.json_text, Replies.refusal_value}, scenario_text.specs.{declared.fault.Fault.Fault, Faults.fault_name, OneStep.IsStep}, scenario_runs.specs.declared.style.Style.Style}
use Rattle.scenario_runs.specs.{declared.style.Style.TheVariants.{Text, Json}, Lines.{Answered, line}}

-- the answer to a line: a reply to a user, or the fault for which the line is not a step
abbrev pub LineReply : Type 0
LineReply = Result Answered Fault

-- the same, as the session keeps it
abbrev pub line_reply : Result (ℕ × Reply) Fault → LineReply
line_reply (Ok r) = Ok (record { uid = r.0; reply = r.1 })
line_reply (Err f) = Err f

-- a line's answer, and the host after it. A step has the machine's reply and leaves the machine's host; or, if it
-- takes memory and the machine wouldn't refuse it, it runs out of memory and leaves the host as it was. A line that is
-- not a step leaves the host as it was.
pub data AnswersLine (text : List ℕ) (m : Machine) : LineReply → Machine → Type 0 where
  step : (a : UserStep) (r : Reply) (k : Machine) → IsStep text (Ok a) → IsUser a.uid → MakesStep (reply_given r) a.uid a.step m k
      → AnswersLine text m (Ok (record { uid = a.uid; reply = r })) k
  refused : (f : Fault) → IsStep text (Err f) → AnswersLine text m (Err f) m

-- the line that names the fault for which a line is not a step; 10 is a line feed
abbrev pub refusal : Style → Fault → List ℕ
refusal Text f = codes "refused " ++ (fault_name f ++ (10 ∷ []))
refusal Json f = json_text (refusal_value (fault_name f)) ++ (10 ∷ [])

-- the line of an answer, by how many replies each user has had before it
abbrev pub reply_text : Style → List ℕ → LineReply → List ℕ
reply_text style made (Ok a) = (line style (slice_index made (a.uid - 1001) + 1) a).text
reply_text style made (Err f) = refusal style f

-- how many replies each user has had after an answer
abbrev pub made_after : List ℕ → LineReply → List ℕ
made_after made (Ok a) = slice_set made (a.uid - 1001) (slice_index made (a.uid - 1001) + 1)
made_after made (Err f) = made

-- ---- the last answer

-- its line, by how many replies each user has had with it; nothing before any answer
abbrev pub answer_text : Style → List ℕ → Option LineReply → List ℕ
answer_text style made None = []
answer_text style made (Some (Ok a)) = (line style (slice_index made (a.uid - 1001)) a).text
answer_text style made (Some (Err f)) = refusal style f

abbrev pub last_reply : Option LineReply → Option Reply
last_reply (Some (Ok a)) = Some a.reply
last_reply last = None

-- the numbers of a reply that is a list
abbrev pub numbers_of : Reply → List ℕ
numbers_of (Lwps tids) = tids
numbers_of (Pids pids) = pids
numbers_of r = []

abbrev pub last_numbers : Option LineReply → List ℕ
last_numbers last = unwrap_or (option_map numbers_of (last_reply last)) []

-- a room with the beginning of a text that fits into it, and after it what was there before
abbrev pub shown : {X : Type 0} → List X → List X → List X
shown text room = take (length room) text ++ drop (length text) room
