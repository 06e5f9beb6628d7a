-- The members of rows as parts, and what they tell.
use Rattle.std.proofs.Common.{◌≡◌, ℕ, ◌<◌, ◌^◌, Bool, true, false, cond, List, [], ◌∷◌, ◌++◌, map, Option, Some, None, refl, ap, ◌∙◌, arith}
use Rattle.std.{specs.Prelude.{not, is_some, codes, ◌==◌}}
use Rattle.signals.specs.Names.{signal_name}
use Rattle.event_masks.specs.{Calls.{call_name, kind_of_call}, Names.{event_table, stop_table, names_of}, declared.Call.Call}
use Rattle.event_masks.specs.declared.Call.TheVariants as call
use Rattle.lwp_table.specs.declared.{LwpData.LwpData, Mode.Mode, Due.Due}
use Rattle.lwp_table.specs.declared.Mode.TheVariants as mode
use Rattle.lwp_table.specs.declared.Due.TheVariants as due
use Rattle.proc_table.specs.declared.{ProcData.ProcData, State.State}
use Rattle.proc_table.specs.declared.State.TheVariants as state
use Rattle.json.specs.{Json.array, Value.items_of}
use Rattle.requests.specs.View.{View}
use Rattle.reply_json.specs.{Objects.{Json, Member, boolean, natural, nonzero_member, string, strings_of}, Replies.signals_of}
use Rattle.json_trace.{specs.{RowLaws.IsCall, Rows.{call_argument, due_member, flags_member, last_stop, listed_member, lwp_members, lwp_value, mode_members, name_and_number, process_members, process_value, rows_members, signal_rest, signals_member, state_members, stop_members, stopped_by, tracer_member, true_member, two_names, two_numbers}}, proofs.Parts.{Part, flat}}

-- ---- one optional member before others

numbers_before : (name : List ℕ) (n : ℕ) (rest : List Member) → nonzero_member name n ++ rest ≡ cond (not (n == 0)) ((name, natural n) ∷ rest) rest
numbers_before name n rest = go (n == 0)
  where
    go : (b : Bool) → cond b [] ((name, natural n) ∷ []) ++ rest ≡ cond (not b) ((name, natural n) ∷ rest) rest
    go true = refl
    go false = refl

signals_before : (name : List ℕ) (set : ℕ) (rest : List Member) → signals_member name set ++ rest ≡ cond (not (set == 0)) ((name, signals_of set) ∷ rest) rest
unfolding signals_member
signals_before name set rest = go (set == 0)
  where
    go : (b : Bool) → cond b [] ((name, signals_of set) ∷ []) ++ rest ≡ cond (not b) ((name, signals_of set) ∷ rest) rest
    go true = refl
    go false = refl

flags_before : (name : List ℕ) (table : List (List ℕ × ℕ)) (set : ℕ) (rest : List Member) → flags_member name table set ++ rest ≡ cond (not (set == 0)) ((name, strings_of (names_of table set)) ∷ rest) rest
unfolding flags_member
flags_before name table set rest = go (set == 0)
  where
    go : (b : Bool) → cond b [] ((name, strings_of (names_of table set)) ∷ []) ++ rest ≡ cond (not b) ((name, strings_of (names_of table set)) ∷ rest) rest
    go true = refl
    go false = refl

true_before : (name : List ℕ) (so : Bool) (rest : List Member) → true_member name so ++ rest ≡ cond so ((name, boolean true) ∷ rest) rest
unfolding true_member
true_before name true rest = refl
true_before name false rest = refl

abbrev pub number_or_0 : Option ℕ → ℕ
number_or_0 None = 0
number_or_0 (Some n) = n

tracer_before : (tracer : Option ℕ) (rest : List Member) → tracer_member tracer ++ rest ≡ cond (is_some tracer) ((codes "tracer", natural (number_or_0 tracer)) ∷ rest) rest
unfolding tracer_member
tracer_before None rest = refl
tracer_before (Some n) rest = refl

-- ---- processes

abbrev pub state_word : State → List ℕ
state_word state.Run = codes "runs"
state_word (state.Trace tid signal reported) = codes "trace_stop"
state_word (state.Job signal reported) = codes "job_stop"
state_word (state.Zombie status) = codes "zombie"

abbrev pub stop_signal : State → Option ℕ
stop_signal (state.Trace tid signal reported) = Some signal
stop_signal (state.Job signal reported) = Some signal
stop_signal s = None

abbrev pub is_reported : State → Bool
is_reported (state.Trace tid signal reported) = reported
is_reported (state.Job signal reported) = reported
is_reported s = false

abbrev pub stop_lwp : State → Option ℕ
stop_lwp (state.Trace tid signal reported) = Some tid
stop_lwp s = None

abbrev pub status_of : State → Option ℕ
status_of (state.Zombie status) = Some status
status_of s = None

abbrev state_names : List (List ℕ)
state_names = codes "state" ∷ codes "stop_signal" ∷ codes "reported" ∷ codes "stop_lwp" ∷ codes "status" ∷ []

abbrev state_parts : State → List Part
state_parts s =
    (true, string (state_word s)) ∷ (is_some (stop_signal s), string (signal_name (number_or_0 (stop_signal s)))) ∷ (is_reported s, boolean true)
    ∷ (is_some (stop_lwp s), natural (number_or_0 (stop_lwp s))) ∷ (is_some (status_of s), natural (number_or_0 (status_of s))) ∷ []

state_before : (s : State) (rest : List Member) → state_members s ++ rest ≡ flat state_names (state_parts s) rest
unfolding state_members stop_members stopped_by two_names true_member name_and_number
state_before state.Run rest = refl
state_before (state.Trace tid signal true) rest = refl
state_before (state.Trace tid signal false) rest = refl
state_before (state.Job signal true) rest = refl
state_before (state.Job signal false) rest = refl
state_before (state.Zombie status) rest = refl

abbrev signal_names : List (List ℕ)
signal_names = codes "continued" ∷ codes "events" ∷ codes "pending" ∷ codes "ignore" ∷ codes "catch" ∷ []

abbrev signal_parts : ProcData → List Part
signal_parts p =
    (p.continued, boolean true) ∷ (not (p.mask.0 == 0), strings_of (names_of event_table p.mask.0)) ∷ (not (p.pending == 0), signals_of p.pending)
    ∷ (not (p.dispositions.ignored == 0), signals_of p.dispositions.ignored) ∷ (not (p.dispositions.caught == 0), signals_of p.dispositions.caught) ∷ []

last_signals : (name : List ℕ) (set : ℕ) → signals_member name set ≡ cond {A = List Member} (not (set == 0)) ((name, signals_of set) ∷ []) []
unfolding signals_member
last_signals name set = go (set == 0)
  where
    go : (b : Bool) → cond {A = List Member} b [] ((name, signals_of set) ∷ []) ≡ cond {A = List Member} (not b) ((name, signals_of set) ∷ []) []
    go true = refl
    go false = refl

signals_flat : (p : ProcData) → true_member (codes "continued") p.continued ++ signal_rest p ≡ flat signal_names (signal_parts p) []
unfolding signal_rest
signals_flat p =
    true_before (codes "continued") p.continued _
    ∙ ap (λ (t : List Member). cond p.continued ((codes "continued", boolean true) ∷ t) t)
    (flags_before (codes "events") event_table p.mask.0 _
    ∙ ap (λ (t : List Member). cond (not (p.mask.0 == 0)) ((codes "events", strings_of (names_of event_table p.mask.0)) ∷ t) t)
    (signals_before (codes "pending") p.pending _
    ∙ ap (λ (t : List Member). cond (not (p.pending == 0)) ((codes "pending", signals_of p.pending) ∷ t) t)
    (signals_before (codes "ignore") p.dispositions.ignored _
    ∙ ap (λ (t : List Member). cond (not (p.dispositions.ignored == 0)) ((codes "ignore", signals_of p.dispositions.ignored) ∷ t) t)
    (last_signals (codes "catch") p.dispositions.caught))))

abbrev pub process_names : List (List ℕ)
process_names = codes "pid" ∷ codes "parent" ∷ codes "tracer" ∷ (state_names ++ signal_names)

abbrev pub process_parts : ProcData → List Part
process_parts p = (true, natural p.pid) ∷ (true, natural p.parent) ∷ (is_some p.tracer, natural (number_or_0 p.tracer)) ∷ (state_parts p.state ++ signal_parts p)

pub process_flat : (p : ProcData) → process_members p ≡ flat process_names (process_parts p) []
unfolding process_members two_numbers
process_flat p =
    ap (λ (t : List Member). (codes "pid", natural p.pid) ∷ (codes "parent", natural p.parent) ∷ t)
    (tracer_before p.tracer _
    ∙ ap (λ (t : List Member). cond (is_some p.tracer) ((codes "tracer", natural (number_or_0 p.tracer)) ∷ t) t)
    (state_before p.state _ ∙ ap (λ (t : List Member). flat state_names (state_parts p.state) t) (signals_flat p)))

-- ---- LWPs

abbrev pub mode_word : Mode → List ℕ
mode_word mode.User = codes "runs"
mode_word (mode.InCall c) = codes "in_call"
mode_word (mode.VforkWait child) = codes "waits_for_vfork"

abbrev pub call_in : Mode → Option Call
call_in (mode.InCall c) = Some c
call_in m = None

abbrev pub name_or_none : Option Call → List ℕ
name_or_none None = []
name_or_none (Some c) = call_name (kind_of_call c)

abbrev pub argument_or_0 : Option Call → ℕ
argument_or_0 None = 0
argument_or_0 (Some c) = call_argument c

pub argument_low : (c : Call) → IsCall c → call_argument c < 2 ^ 32
argument_low (call.Exit s) h = h
argument_low (call.Other n) h = h
argument_low c h = omega arith

abbrev pub vfork_child : Mode → Option ℕ
vfork_child (mode.VforkWait child) = Some child
vfork_child m = None

abbrev mode_names : List (List ℕ)
mode_names = codes "mode" ∷ codes "call" ∷ codes "argument" ∷ codes "vfork_child" ∷ []

abbrev mode_parts : Mode → List Part
mode_parts m =
    (true, string (mode_word m)) ∷ (is_some (call_in m), string (name_or_none (call_in m))) ∷ (not (argument_or_0 (call_in m) == 0), natural (argument_or_0 (call_in m)))
    ∷ (is_some (vfork_child m), natural (number_or_0 (vfork_child m))) ∷ []

mode_before : (m : Mode) (rest : List Member) → mode_members m ++ rest ≡ flat mode_names (mode_parts m) rest
unfolding mode_members two_names name_and_number
mode_before mode.User rest = refl
mode_before (mode.InCall c) rest =
    ap (λ (t : List Member). (codes "mode", string (codes "in_call")) ∷ (codes "call", string (call_name (kind_of_call c))) ∷ t) (numbers_before (codes "argument") (call_argument c) rest)
mode_before (mode.VforkWait child) rest = refl

abbrev pub due_word : Due → List ℕ
due_word due.Nothing = []
due_word due.Born = codes "born"
due_word due.Begun = codes "begun"
due_word due.VforkDone = codes "vfork_done"

abbrev pub is_due : Due → Bool
is_due due.Nothing = false
is_due d = true

due_before : (d : Due) (rest : List Member) → due_member d ++ rest ≡ cond (is_due d) ((codes "due", string (due_word d)) ∷ rest) rest
unfolding due_member
due_before due.Nothing rest = refl
due_before due.Born rest = refl
due_before due.Begun rest = refl
due_before due.VforkDone rest = refl

last_number : (name : List ℕ) (n : ℕ) → nonzero_member name n ≡ cond {A = List Member} (not (n == 0)) ((name, natural n) ∷ []) []
last_number name n = go (n == 0)
  where
    go : (b : Bool) → cond {A = List Member} b [] ((name, natural n) ∷ []) ≡ cond {A = List Member} (not b) ((name, natural n) ∷ []) []
    go true = refl
    go false = refl

abbrev pub lwp_names : List (List ℕ)
lwp_names = codes "lwp" ∷ codes "pid" ∷ (mode_names ++ (codes "suspended" ∷ codes "stepping" ∷ codes "blocked" ∷ codes "pending" ∷ codes "due" ∷ codes "flags" ∷ codes "child" ∷ codes "code" ∷ []))

abbrev pub lwp_parts : LwpData → List Part
lwp_parts l =
    (true, natural l.tid) ∷ (true, natural l.pid) ∷ (mode_parts l.mode
    ++ ((l.suspended, boolean true) ∷ (l.stepping, boolean true) ∷ (not (l.blocked == 0), signals_of l.blocked) ∷ (not (l.pending == 0), signals_of l.pending)
    ∷ (is_due l.due, string (due_word l.due)) ∷ (not (l.flags.0 == 0), strings_of (names_of stop_table l.flags.0)) ∷ (not (l.child == 0), natural l.child) ∷ (not (l.code == 0), natural l.code) ∷ []))

pub lwp_flat : (l : LwpData) → lwp_members l ≡ flat lwp_names (lwp_parts l) []
unfolding lwp_members two_numbers last_stop
lwp_flat l =
    ap (λ (t : List Member). (codes "lwp", natural l.tid) ∷ (codes "pid", natural l.pid) ∷ t)
    (mode_before l.mode _ ∙ ap (λ (t : List Member). flat mode_names (mode_parts l.mode) t)
    (true_before (codes "suspended") l.suspended _ ∙ ap (λ (t : List Member). cond l.suspended ((codes "suspended", boolean true) ∷ t) t)
    (true_before (codes "stepping") l.stepping _ ∙ ap (λ (t : List Member). cond l.stepping ((codes "stepping", boolean true) ∷ t) t)
    (signals_before (codes "blocked") l.blocked _ ∙ ap (λ (t : List Member). cond (not (l.blocked == 0)) ((codes "blocked", signals_of l.blocked) ∷ t) t)
    (signals_before (codes "pending") l.pending _ ∙ ap (λ (t : List Member). cond (not (l.pending == 0)) ((codes "pending", signals_of l.pending) ∷ t) t)
    (due_before l.due _ ∙ ap (λ (t : List Member). cond (is_due l.due) ((codes "due", string (due_word l.due)) ∷ t) t)
    (flags_before (codes "flags") stop_table l.flags.0 _ ∙ ap (λ (t : List Member). cond (not (l.flags.0 == 0)) ((codes "flags", strings_of (names_of stop_table l.flags.0)) ∷ t) t)
    (numbers_before (codes "child") l.child _ ∙ ap (λ (t : List Member). cond (not (l.child == 0)) ((codes "child", natural l.child) ∷ t) t)
    (last_number (codes "code") l.code)))))))))

-- ---- all rows

abbrev pub is_cons : {X : Type 0} → List X → Bool
is_cons [] = false
is_cons (x ∷ xs) = true

abbrev pub rows_names : List (List ℕ)
rows_names = codes "processes" ∷ codes "lwps" ∷ []

abbrev pub rows_parts : View → List Part
rows_parts v =
    (is_cons (map (λ p. process_value p) v.processes), array (items_of (map (λ p. process_value p) v.processes)))
    ∷ (is_cons (map (λ l. lwp_value l) v.lwps), array (items_of (map (λ l. lwp_value l) v.lwps))) ∷ []

listed_before : (name : List ℕ) (js : List Json) (rest : List Member) → listed_member name js ++ rest ≡ cond (is_cons js) ((name, array (items_of js)) ∷ rest) rest
unfolding listed_member
listed_before name [] rest = refl
listed_before name (j ∷ js) rest = refl

listed_last : (name : List ℕ) (js : List Json) → listed_member name js ≡ cond {A = List Member} (is_cons js) ((name, array (items_of js)) ∷ []) []
unfolding listed_member
listed_last name [] = refl
listed_last name (j ∷ js) = refl

pub rows_flat : (v : View) → rows_members v ≡ flat rows_names (rows_parts v) []
unfolding rows_members
rows_flat v =
    listed_before (codes "processes") (map (λ p. process_value p) v.processes) _
    ∙ ap (λ (t : List Member). cond (is_cons (map (λ p. process_value p) v.processes)) ((codes "processes", array (items_of (map (λ p. process_value p) v.processes))) ∷ t) t)
    (listed_last (codes "lwps") (map (λ l. lwp_value l) v.lwps))
