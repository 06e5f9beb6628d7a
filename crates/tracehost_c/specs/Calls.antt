-- What the calls from C do, by the code that they return.
use Rattle.std.specs.Prelude.{◌≡◌, ◌≢◌, ◌⊎◌, ℕ, Bool, if◌then◌else◌, List, [], Option, Some, None, Ok, Err, IsSome, IsSomeAnd, length, map, replicate}
use Rattle.{pid_blocks.specs.Users.IsUser, requests.specs.{Machine.empty, View.view}, step_types.specs.{Plain.{PlainStep, UserStep}, declared.Settings.Settings}, scenario_text.specs.{declared.fault.Fault.Fault, OneStep.IsStep}, scenario_runs.specs.declared.style.Style.{Style, TheVariants.{Text, Json}}}
use Rattle.tracehost_c.specs.{declared.{replies.FlatReply.FlatReply, rows.{FlatProcess.FlatProcess, FlatLwp.FlatLwp}}, Replies.flat, FlatRows.{flat_process, flat_lwp}}
use Rattle.json_trace.specs.Rows.{rows_json}
use Rattle.open_sessions.specs.{Answers.{last_numbers, shown}, Calls.{OpenSession, last_text, state_of, LineOf, Steps, Answers, CopiesUser, IsFull, FullFor}}

abbrev pub style_of : Bool → Style
style_of json = if json then Json else Text

-- ---- handles

-- the session of a handle that was opened just now
abbrev pub opened : Settings → OpenSession
opened settings = record { host = empty settings; made = replicate 64 0; last = None; asked = None }

-- a call that puts this session into a handle, if its code is 0, and otherwise leaves the one that is there
abbrev pub Gets : (session old new : Option OpenSession) → ℕ → Type 0
Gets session old new code = (code ≡ 0 → new ≡ session) × (code ≢ 0 → new ≡ old)

-- the number is a user's, and an open session has what the user has in another open one, and all else as it was
abbrev pub TakesUser : ℕ → (source old new : Option OpenSession) → Type 0
TakesUser u source old new = IsUser u × (s : OpenSession) × (t : OpenSession) × (after : OpenSession)
    × (source ≡ Some s) × (old ≡ Some t) × (new ≡ Some after) × CopiesUser u t s after

-- both sessions are open, and the number is no user's, or one session's host kills the tracees of a debugger that ends and
-- the other's doesn't
abbrev pub RefusesUser : ℕ → (source old : Option OpenSession) → Type 0
RefusesUser u source old = (s : OpenSession) × (t : OpenSession) × (source ≡ Some s) × (old ≡ Some t) × ((¬ IsUser u) ⊎ (s.host.settings ≢ t.host.settings))

-- ---- lines

-- the room has the beginning of the text, or of the rows, that fits, and n is the whole length
abbrev pub Shows : {X : Type 0} → (text room filled : List X) → ℕ → Type 0
Shows text room filled n = (filled ≡ shown text room) × (n ≡ length text)

-- a call that is this line: it was answered, with or without memory for its text; or the session is as it was
pub data LineCall (line : List ℕ) (old new : Option OpenSession) (code : ℕ) : Type 0 where
  line_not_open : code ≡ 1 → old ≡ None → new ≡ old → LineCall line old new code
  line_no_memory : code ≡ 2 → IsSome old → new ≡ old → LineCall line old new code
  line_full : (s : OpenSession) → code ≡ 5 → old ≡ Some s → FullFor line s → new ≡ old → LineCall line old new code
  line_answered : (s t : OpenSession) → (code ≡ 0) ⊎ (code ≡ 4) → old ≡ Some s → new ≡ Some t → ¬ FullFor line s → Answers line s t
      → LineCall line old new code

-- the line of the last answer of an open session
abbrev pub ShowsLast : Style → Option OpenSession → (room filled : List ℕ) → ℕ → Type 0
ShowsLast style session room filled n = IsSomeAnd session (λ s. Shows (last_text style s) room filled n)

-- a line that is the step of the last answer of an open session
abbrev pub ShowsStep : Option OpenSession → (room filled : List ℕ) → ℕ → Type 0
ShowsStep session room filled n = IsSomeAnd session (λ s. (line : List ℕ) × LineOf s.asked line × Shows line room filled n)

-- a step has no explanation; another line has one
pub data Explains (line room filled : List ℕ) (n : ℕ) : Type 0 where
  of_step : (a : UserStep) → IsStep line (Ok a) → filled ≡ room → n ≡ 0 → Explains line room filled n
  of_fault : (f : Fault) (text : List ℕ) → IsStep line (Err f) → text ≢ [] → Shows text room filled n → Explains line room filled n

-- the numbers of the last answer of an open session
abbrev pub ShowsNumbers : Option OpenSession → (room filled : List ℕ) → ℕ → Type 0
ShowsNumbers session room filled n = IsSomeAnd session (λ s. Shows (last_numbers s.last) room filled n)

-- ---- views

-- all that a user sees of an open session, as numbers
abbrev pub ShowsState : ℕ → Option OpenSession → (room filled : List ℕ) → ℕ → Type 0
ShowsState u session room filled n = IsSomeAnd session (λ s. IsUser u × Shows (state_of u s) room filled n)

-- the rows that a user sees of an open session, as text
abbrev pub ShowsRows : ℕ → Option OpenSession → (room filled : List ℕ) → ℕ → Type 0
ShowsRows u session room filled n = IsSomeAnd session (λ s. IsUser u × Shows (rows_json (view u s.host)) room filled n)

-- a user's view of an open session: the rows of processes and of LWPs
abbrev pub ShowsView : ℕ → Option OpenSession → (processes filled : List FlatProcess) → ℕ → (lwps filled_lwps : List FlatLwp) → ℕ → Type 0
ShowsView u session processes filled n lwps filled_lwps m = IsSomeAnd session (λ s. IsUser u
    × Shows (map flat_process (view u s.host).processes) processes filled n
    × Shows (map flat_lwp (view u s.host).lwps) lwps filled_lwps m)

-- ---- steps

pub data StepOf (user : ℕ) (step : PlainStep) (s t : OpenSession) (before after : FlatReply) (code : ℕ) : Type 0 where
  answered : code ≡ 0 → ¬ IsFull user s → (made : Steps user step s t) → after ≡ flat made.reply → StepOf user step s t before after code
  full : code ≡ 5 → IsFull user s → t ≡ s → after ≡ before → StepOf user step s t before after code

-- a call of a user that is this step, if its numbers are those of a step; the handle has a session if it is open
pub data TypedCall (user : ℕ) (step : Option PlainStep) (old new : Option OpenSession) (before after : FlatReply) (code : ℕ) : Type 0 where
  not_open : code ≡ 1 → old ≡ None → new ≡ old → after ≡ before → TypedCall user step old new before after code
  no_step : code ≡ 3 → IsSome old → (IsUser user → step ≡ None) → new ≡ old → after ≡ before → TypedCall user step old new before after code
  in_session : (s t : OpenSession) (made : PlainStep) → IsUser user → step ≡ Some made → old ≡ Some s → new ≡ Some t
      → StepOf user made s t before after code → TypedCall user step old new before after code
