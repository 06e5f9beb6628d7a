-- A reply as a JSON object.
use Rattle.std.specs.Prelude.{ℕ, true, ◌==◌, List, [], ◌∷◌, ◌++◌, map, codes, Option, Some, None, if◌then◌else◌}
use Rattle.pid_blocks.specs.Blocks.{errno_name, errno_number}
use Rattle.signals.specs.{Names.signal_name, Sets.members}
use Rattle.event_masks.specs.{declared.StopFlags.StopFlags, Names.event_table, Names.stop_table, Names.names_of}
use Rattle.step_types.specs.{Events.event_name, Status.ended, Status.word, declared.LwpInfo.LwpInfo, declared.Reply.Reply, declared.StatusKind.StatusKind}
use Rattle.step_types.specs.{declared.StatusKind.TheVariants.Continued, declared.StatusKind.TheVariants.Exited, declared.StatusKind.TheVariants.Signaled}
use Rattle.step_types.specs.{declared.StatusKind.TheVariants.Stopped}
use Rattle.stop_handlers.specs.{declared.Decision.Decision, declared.StopView.StopView}
use Rattle.reply_json.specs.Objects.{Json, null, boolean, string, Token, json_tokens, Member, object_of, natural, numbers_of, strings_of, json_text}
use Rattle.stop_handlers.specs.declared.Decision.TheVariants as decision
use Rattle.step_types.specs.declared.Reply.TheVariants as reply

-- a signal: its name as a member with the given name, and its number
abbrev pub named_signal : List ℕ → ℕ → List Member
named_signal name s = (name, string (signal_name s)) ∷ (codes "number", natural s) ∷ []

abbrev pub signal_members : ℕ → List Member
signal_members s = named_signal (codes "signal") s

-- the members of a kind of wait status
abbrev pub status_members : StatusKind → List Member
status_members (Exited code) = (codes "exited", natural code) ∷ []
status_members (Signaled s) = named_signal (codes "signaled") s
status_members (Stopped s) = named_signal (codes "stopped") s
status_members Continued = (codes "continued", boolean true) ∷ []

-- a status after its word, the number that wait(2) writes
abbrev pub word_members : ℕ → StatusKind → List Member
word_members w status = (codes "word", natural w) ∷ status_members status

abbrev pub flags_of : StopFlags → Member
flags_of f = (codes "flags", strings_of (names_of stop_table f.0))

-- the names of the signals of a set, rising by number
abbrev pub signals_of : ℕ → Json
signals_of set = strings_of (map (λ s. signal_name s) (members set))

-- the child that a stop reports, and the code of the call
abbrev pub call_members : ℕ → ℕ → List Member
call_members child code = (codes "child", natural child) ∷ (codes "code", natural code) ∷ []

abbrev pub info_members : LwpInfo → List Member
info_members i =
    (codes "lwp", natural i.tid) ∷ (codes "event", string (event_name i.event)) ∷ flags_of i.flags
    ∷ (codes "mask", signals_of i.sigmask) ∷ (codes "pending", signals_of i.siglist)
    ∷ call_members i.child i.code

-- a stop as a handler saw it
abbrev pub view_members : StopView → List Member
view_members v =
    (codes "lwp", natural v.tid) ∷ (signal_members v.sig ++ (flags_of v.flags ∷ call_members v.child v.code))

-- the handler's index among the caller's, or null if all declined
abbrev pub index_of : Option ℕ → Json
index_of None = null
index_of (Some i) = natural i

-- the signal that is passed on, or null if none is
abbrev pub pass_of : ℕ → Json
pass_of s = if s == 0 then null else object_of (signal_members s)

-- the decision, and the signal that is passed on if the process is resumed
abbrev pub decision_members : Decision → List Member
decision_members decision.Decline = (codes "decision", string (codes "decline")) ∷ []
decision_members decision.Leave = (codes "decision", string (codes "leave")) ∷ []
decision_members (decision.Continue s) = (codes "decision", string (codes "continue")) ∷ (codes "pass", pass_of s) ∷ []
decision_members (decision.Detach s) = (codes "decision", string (codes "detach")) ∷ (codes "pass", pass_of s) ∷ []
decision_members decision.Kill = (codes "decision", string (codes "kill")) ∷ []

-- the reply's word, and the members after it
abbrev pub reply_parts : Reply → List ℕ × List Member
reply_parts reply.Done = (codes "ok", [])
reply_parts (reply.New pid tid) = (codes "new", (codes "pid", natural pid) ∷ (codes "lwp", natural tid) ∷ [])
reply_parts (reply.Number n) = (codes "number", (codes "number", natural n) ∷ [])
reply_parts (reply.Status pid status) = (codes "status", (codes "pid", natural pid) ∷ word_members (word status) status)
reply_parts reply.Nothing = (codes "nothing", [])
reply_parts (reply.Info i) = (codes "info", info_members i)
reply_parts (reply.Lwps tids) = (codes "lwps", (codes "lwps", numbers_of tids) ∷ [])
reply_parts (reply.Pids pids) = (codes "pids", (codes "pids", numbers_of pids) ∷ [])
reply_parts (reply.Mask mask) = (codes "mask", (codes "events", strings_of (names_of event_table mask.0)) ∷ [])
reply_parts (reply.Handled pid status view index decision) = (
  codes "handled",
  (codes "pid", natural pid) ∷ (word_members (word status) status
      ++ ((codes "at", object_of (view_members view)) ∷ (codes "by", index_of index) ∷ decision_members decision)),
)
reply_parts (reply.Stopped tid sig flags) = (codes "stopped", (codes "lwp", natural tid) ∷ (signal_members sig ++ (flags_of flags ∷ [])))
reply_parts (reply.Caught sig) = (codes "caught", signal_members sig)
reply_parts (reply.Ended w) = (codes "ended", word_members w (ended w))
reply_parts reply.Held = (codes "held", [])
reply_parts (reply.Errno e) = (codes "error", (codes "errno", string (errno_name e)) ∷ (codes "number", natural (errno_number e)) ∷ [])

abbrev pub reply_word : Reply → List ℕ
reply_word r = (reply_parts r).0

abbrev pub reply_members : Reply → List Member
reply_members r = (reply_parts r).1

-- the reply's word, and the members after it
abbrev pub answer_members : Reply → List Member
answer_members r = (codes "reply", string (reply_word r)) ∷ reply_members r

-- the user, and the user's own number of the step
abbrev pub place_members : ℕ → ℕ → List Member
place_members user n = (codes "user", natural user) ∷ (codes "step", natural n) ∷ []

-- the reply to a user's n-th step
abbrev pub reply_value : ℕ → ℕ → Reply → Json
reply_value user n r = object_of (place_members user n ++ answer_members r)

abbrev pub reply_tokens : ℕ → ℕ → Reply → List Token
reply_tokens user n r = json_tokens (reply_value user n r)

-- its text
abbrev pub reply_json : ℕ → ℕ → Reply → List ℕ
reply_json user n r = json_text (reply_value user n r)

-- the object with the name of the fault for which a line is not a step
abbrev pub refusal_value : List ℕ → Json
refusal_value name = object_of ((codes "refused", string name) ∷ [])
