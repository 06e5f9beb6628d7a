-- Rows of processes and LWPs as JSON objects. What is false, 0, empty or none has no member.
use Rattle.std.specs.Prelude.{ℕ, Bool, true, ◌==◌, if◌then◌else◌, List, [], ◌∷◌, ◌++◌, codes, map, Option, Some, None}
use Rattle.signals.specs.Names.{signal_name}
use Rattle.event_masks.specs.{Calls.{call_name, kind_of_call}, Names.{event_table, stop_table, names_of}, declared.Call.Call}
use Rattle.event_masks.specs.declared.Call.TheVariants as call
use Rattle.lwp_table.specs.declared.{LwpData.LwpData, Mode.Mode, Due.Due}
use Rattle.lwp_table.specs.declared.Mode.TheVariants as mode
use Rattle.lwp_table.specs.declared.Due.TheVariants as due
use Rattle.proc_table.specs.declared.{ProcData.ProcData, State.State}
use Rattle.proc_table.specs.declared.State.TheVariants as state
use Rattle.json.specs.Value.{items_of}
use Rattle.requests.specs.View.{View}
use Rattle.reply_json.specs.{Objects.{Json, json_text, array, boolean, string, Member, object_of, natural, nonzero_member, strings_of}, Replies.signals_of}

unfoldable pub true_member : List ℕ → Bool → List Member
true_member name so = if so then (name, boolean true) ∷ [] else []

unfoldable pub two_numbers : List ℕ → ℕ → List ℕ → ℕ → List Member
two_numbers name n other m = (name, natural n) ∷ (other, natural m) ∷ []

unfoldable pub name_and_number : List ℕ → List ℕ → List ℕ → ℕ → List Member
name_and_number name text other n = (name, string text) ∷ (other, natural n) ∷ []

-- the names of the signals of a set
unfoldable pub signals_member : List ℕ → ℕ → List Member
signals_member name set = if set == 0 then [] else (name, signals_of set) ∷ []

-- the names of the flags of a set
unfoldable pub flags_member : List ℕ → List (List ℕ × ℕ) → ℕ → List Member
flags_member name table set = if set == 0 then [] else (name, strings_of (names_of table set)) ∷ []

-- ---- processes

unfoldable pub two_names : List ℕ → List ℕ → List ℕ → List ℕ → List Member
two_names name text other word = (name, string text) ∷ (other, string word) ∷ []

unfoldable pub stopped_by : List ℕ → ℕ → List Member
stopped_by word signal = two_names (codes "state") word (codes "stop_signal") (signal_name signal)

unfoldable pub stop_members : List ℕ → ℕ → Bool → List Member
stop_members word signal reported = stopped_by word signal ++ true_member (codes "reported") reported

unfoldable pub state_members : State → List Member
state_members state.Run = (codes "state", string (codes "runs")) ∷ []
state_members (state.Trace tid signal reported) = stop_members (codes "trace_stop") signal reported ++ ((codes "stop_lwp", natural tid) ∷ [])
state_members (state.Job signal reported) = stop_members (codes "job_stop") signal reported
state_members (state.Zombie status) = name_and_number (codes "state") (codes "zombie") (codes "status") status

unfoldable pub tracer_member : Option ℕ → List Member
tracer_member None = []
tracer_member (Some tracer) = (codes "tracer", natural tracer) ∷ []

-- the event mask, the pending signals and the dispositions
unfoldable pub signal_rest : ProcData → List Member
signal_rest p =
    flags_member (codes "events") event_table p.mask.0 ++ (signals_member (codes "pending") p.pending
    ++ (signals_member (codes "ignore") p.dispositions.ignored ++ signals_member (codes "catch") p.dispositions.caught))

unfoldable pub process_members : ProcData → List Member
process_members p =
    two_numbers (codes "pid") p.pid (codes "parent") p.parent
    ++ (tracer_member p.tracer ++ (state_members p.state ++ (true_member (codes "continued") p.continued ++ signal_rest p)))

-- ---- LWPs

abbrev pub call_argument : Call → ℕ
call_argument (call.Exit status) = status
call_argument (call.Other number) = number
call_argument c = 0

unfoldable pub mode_members : Mode → List Member
mode_members mode.User = (codes "mode", string (codes "runs")) ∷ []
mode_members (mode.InCall c) =
    two_names (codes "mode") (codes "in_call") (codes "call") (call_name (kind_of_call c)) ++ nonzero_member (codes "argument") (call_argument c)
mode_members (mode.VforkWait child) = name_and_number (codes "mode") (codes "waits_for_vfork") (codes "vfork_child") child

-- the stop that the LWP meets at its next turn
unfoldable pub due_member : Due → List Member
due_member due.Nothing = []
due_member due.Born = (codes "due", string (codes "born")) ∷ []
due_member due.Begun = (codes "due", string (codes "begun")) ∷ []
due_member due.VforkDone = (codes "due", string (codes "vfork_done")) ∷ []

-- what PT_LWPINFO shows of the last stop besides its signal
unfoldable pub last_stop : LwpData → List Member
last_stop l = flags_member (codes "flags") stop_table l.flags.0 ++ (nonzero_member (codes "child") l.child ++ nonzero_member (codes "code") l.code)

unfoldable pub lwp_members : LwpData → List Member
lwp_members l =
    two_numbers (codes "lwp") l.tid (codes "pid") l.pid
    ++ (mode_members l.mode ++ (true_member (codes "suspended") l.suspended ++ (true_member (codes "stepping") l.stepping
    ++ (signals_member (codes "blocked") l.blocked ++ (signals_member (codes "pending") l.pending ++ (due_member l.due ++ last_stop l))))))

abbrev pub process_value : ProcData → Json
process_value p = object_of (process_members p)

abbrev pub lwp_value : LwpData → Json
lwp_value l = object_of (lwp_members l)

-- ---- all rows that a user sees

unfoldable pub listed_member : List ℕ → List Json → List Member
listed_member name [] = []
listed_member name (j ∷ js) = (name, array (items_of (j ∷ js))) ∷ []

unfoldable pub rows_members : View → List Member
rows_members v = listed_member (codes "processes") (map process_value v.processes) ++ listed_member (codes "lwps") (map lwp_value v.lwps)

-- the text of the rows
abbrev pub rows_json : View → List ℕ
rows_json v = json_text (object_of (rows_members v))
