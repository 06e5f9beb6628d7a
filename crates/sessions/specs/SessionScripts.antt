-- A session's script that is ready to run, and its result.
use Rattle.std.specs.{Prelude.{◌≡◌, ℕ, ◌+◌, ◌≤◌, List, [], map, Vec, vec_len, vec_capacity}, Global.Global}
use Rattle.{host_lock.specs.{Boxed.{SmallStep, own_step}, Limits.max_calls, Sessions.{SessionData, HostData, IsOf}}, sessions.specs.declared.session_script.SessionScript.SessionScript}
use Rattle.step_types.specs.declared.Reply.{Reply}
use Rattle.sessions.specs.{declared.{session_script.SessionOutput.SessionOutput, script.Transcript.Transcript}, Made.{HasMade, Pairs}}

-- the list is empty, and has room for n items
abbrev pub HasRoomFor : {A : Type 0} → ℕ → Vec A Global → Type 0
HasRoomFor n v = (v.items ≡ []) × (vec_len v ≡ 0) × (n ≤ vec_capacity v)

-- the list has these items, and room for n more
abbrev pub HasRoomAfter : {A : Type 0} → List A → ℕ → Vec A Global → Type 0
HasRoomAfter items n v = (v.items ≡ items) × (vec_len v + n ≤ vec_capacity v)

-- what a draft's relation says: of a report, its user, the room that is left, and the replies so far
abbrev pub Drafted : Type 0 → Type 0 → Type 1
Drafted D T = D → T → ℕ → ℕ → List Reply → Type 0

-- the draft has room for the replies, and none yet
abbrev pub IsBegun : {F T D : Type 0} → Drafted D T → SessionScript F T D → Type 0
IsBegun drafted j = drafted j.draft j.report.value j.session.uid (vec_len j.steps) []

-- the session is of this host and has made no call, and its script is short enough
abbrev pub IsReady : {F T D : Type 0} → Drafted D T → HostData → SessionScript F T D → Type 0
IsReady drafted h j = IsOf h j.session × (j.session.calls ≡ 0) × (j.session.mine ≡ []) × (vec_len j.steps ≤ max_calls) × IsBegun drafted j

-- the session has made the script, and its output was made of the replies as its report has it
abbrev pub IsDone : {F T D O : Type 0} → (O → List Reply) → (T → ℕ → O → Type 0) → SessionScript F T D → SessionOutput O → Type 0
IsDone made_of tells j d = HasMade j.session (map own_step j.steps.items) (made_of d.output) d.session × tells j.report.value j.session.uid d.output

-- each session has made its script
abbrev pub AllDone : {F T D O : Type 0} → (O → List Reply) → (T → ℕ → O → Type 0) → List (SessionScript F T D) → List (SessionOutput O) → Type 0
AllDone made_of tells js ds = Pairs (IsDone made_of tells) js ds

abbrev pub script_session : {F T D : Type 0} → SessionScript F T D → SessionData
script_session j = j.session

abbrev pub script_steps : {F T D : Type 0} → SessionScript F T D → Vec SmallStep Global
script_steps j = j.steps

abbrev pub script_report : {F T D : Type 0} → SessionScript F T D → T
script_report j = j.report.value

abbrev pub output_session : {O : Type 0} → SessionOutput O → SessionData
output_session d = d.session

abbrev pub output_transcript : {O : Type 0} → SessionOutput O → Transcript O
output_transcript d = record { uid = d.session.uid; replies = d.output }
