-- The calls of a session, one after another: what each is answered, and what a user can tell of it.
use Rattle.std.specs.{Prelude.{◌≡◌, ◌≢◌, ℕ, false, List, [], ◌∷◌, map, filter_map, option_map, Ok, Err}, Result.result_ok}
use Rattle.{pid_blocks.specs.Users.IsUser, requests.specs.{Hosts.Steps as HostSteps, Isolation.{Apart, Private}, Machine.Machine, Step.step as machine_step}, step_types.specs.{Plain.{PlainStep, UserStep}, Replies.is_memory, declared.Reply.Reply}}
use Rattle.{visibility.specs.Runs.reply_given, scenario_text.specs.{declared.fault.Fault.Fault, OneStep.IsStep}}
use Rattle.open_sessions.specs.{Answers.LineReply, Calls.{OpenSession, Steps, Answers, state_of}, StepLines.{HasLine, as_line, line_of}}

-- a call that makes a step of a user, or answers a line
pub data Call : Type 0 where
  typed : UserStep → Call
  by_line : List ℕ → Call

-- a call was answered: the session before it, its answer, and the session after it
abbrev pub AnswersCall : Call → OpenSession → LineReply → OpenSession → Type 0
AnswersCall (typed a) s r t = (made : Steps a.uid a.step s t) × (r ≡ Ok (record { uid = a.uid; reply = made.reply }))
AnswersCall (by_line text) s r t = (made : Answers text s t) × (r ≡ made.reply)

-- calls in order, with their answers
abbrev pub AnswersCalls : List Call → OpenSession → List LineReply → OpenSession → Type 0
AnswersCalls [] s [] t = t ≡ s
AnswersCalls (c ∷ cs) s (r ∷ rs) t = (n : OpenSession) × AnswersCall c s r n × AnswersCalls cs n rs t
AnswersCalls cs s rs t = ⊥

-- the steps that the calls are, in order; a line that is not a step has none
pub data StepsIn : List Call → List UserStep → Type 0 where
  none : StepsIn [] []
  typed_step : (a : UserStep) (calls : List Call) (steps : List UserStep) → StepsIn calls steps → StepsIn (typed a ∷ calls) (a ∷ steps)
  line_step : (text : List ℕ) (a : UserStep) (calls : List Call) (steps : List UserStep) → IsStep text (Ok a) → StepsIn calls steps
      → StepsIn (by_line text ∷ calls) (a ∷ steps)
  no_step : (text : List ℕ) (f : Fault) (calls : List Call) (steps : List UserStep) → IsStep text (Err f) → StepsIn calls steps
      → StepsIn (by_line text ∷ calls) steps

-- the replies among the answers, in order
abbrev pub replies_in : List LineReply → List Reply
replies_in answers = filter_map (λ answer. option_map (λ a. a.reply) (result_ok answer)) answers

-- each user's replies, and the user's view at the end, are those of the user's own steps without any other user
abbrev pub PrivateCalls : List Call → List LineReply → (s t : OpenSession) → Type 0
PrivateCalls calls rs s t =
    (steps : List UserStep) × StepsIn calls steps × Private steps (map (λ r. reply_given r) (replies_in rs)) s.host t.host

-- so it is for all calls from a session on whose host keeps users apart
abbrev pub CallsArePrivate : Type 0
CallsArePrivate = (calls : List Call) (s t : OpenSession) (rs : List LineReply) → Apart s.host → AnswersCalls calls s rs t → PrivateCalls calls rs s t

-- two sessions whose states are the same for a user answer the user's next step alike, and their states are the same again,
-- if neither runs out of memory
abbrev pub AnswersAlike : Type 0
AnswersAlike = (u : ℕ) (step : PlainStep) (s k t l : OpenSession) → Apart s.host → Apart k.host → state_of u s ≡ state_of u k
    → (first : Steps u step s t) (second : Steps u step k l) → is_memory first.reply ≡ false → is_memory second.reply ≡ false
    → (first.reply ≡ second.reply) × (state_of u t ≡ state_of u l)

-- a step of another user leaves a user's state
abbrev pub LeavesStates : Type 0
LeavesStates = (u w : ℕ) (step : PlainStep) (s t : OpenSession) → Apart s.host → IsUser u → u ≢ w → Steps w step s t → state_of u t ≡ state_of u s

-- the line of each step with names is read as the step
abbrev pub EachLineIsItsStep : Type 0
EachLineIsItsStep = (a : UserStep) → IsUser a.uid → HasLine a.step → IsStep (line_of a) (Ok (record a { step = as_line a.step }))

-- the machine answers a step and its line's alike, and is the same after both
abbrev pub MachineMakesAlike : Type 0
MachineMakesAlike = (u : ℕ) (s : PlainStep) (m : Machine) → machine_step u (as_line s) m ≡ machine_step u s m

-- and so does a host, also if memory runs out
abbrev pub HostMakesAlike : Type 0
HostMakesAlike = (u : ℕ) (s : PlainStep) (m k : Machine) (r : Reply) → HostSteps u s m k r → HostSteps u (as_line s) m k r
