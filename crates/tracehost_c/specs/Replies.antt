-- A reply as numbers.
use Rattle.std.specs.Prelude.{⊤, ◌≡◌, ℕ, false, ◌%◌, ◌^◌, List, length, Option, is_some}
use Rattle.step_types.specs.{Replies.is_listing, Status.{IsStatus, word}, declared.{Event.Event, LwpInfo.LwpInfo, Reply.Reply, StatusKind.StatusKind}}
use Rattle.{pid_blocks.specs.Blocks.errno_number, stop_handlers.specs.{Decisions.{decision_number, kind_of_decision}, declared.{Decision.Decision, StopView.StopView}}, tracehost_c.specs.declared.replies.FlatReply.FlatReply}
use Rattle.open_sessions.specs.Flat.{flag, number_or_0, passed}

-- a reply of this kind with all its numbers 0
abbrev pub blank : ℕ → FlatReply
blank kind = record {
  kind = kind;
  pid = 0;
  lwp = 0;
  number = 0;
  status = 0;
  signal = 0;
  event = 0;
  flags = 0;
  mask = 0;
  pending = 0;
  child = 0;
  code = 0;
  has_handler = 0;
  handler = 0;
  decision = 0;
  pass = 0;
  error = 0;
  count = 0;
  stop_pid = 0;
}

abbrev pub event_number : Event → ℕ
event_number Event.Nothing = 0
event_number Event.Signal = 1

abbrev pub flat_info : LwpInfo → FlatReply
flat_info i =
    record (blank 5) { lwp = i.tid; event = event_number i.event; flags = i.flags.0; mask = i.sigmask; pending = i.siglist; child = i.child; code = i.code }

-- whether there is an index, as 1 or 0
abbrev pub has_index : Option ℕ → ℕ
has_index index = flag (is_some index)

abbrev pub flat_handled : ℕ → StatusKind → StopView → Option ℕ → Decision → FlatReply
flat_handled pid status view index d = record (blank 9) {
  pid = pid;
  lwp = view.tid;
  status = word status;
  signal = view.sig;
  flags = view.flags.0;
  child = view.child;
  code = view.code;
  has_handler = has_index index;
  handler = number_or_0 index;
  decision = decision_number (kind_of_decision d);
  pass = passed d;
  stop_pid = view.pid;
}

abbrev pub flat : Reply → FlatReply
flat Reply.Done = blank 0
flat (Reply.New pid tid) = record (blank 1) { pid = pid; lwp = tid }
flat (Reply.Number n) = record (blank 2) { number = n }
flat (Reply.Status pid status) = record (blank 3) { pid = pid; status = word status }
flat Reply.Nothing = blank 4
flat (Reply.Info i) = flat_info i
flat (Reply.Lwps tids) = record (blank 6) { count = length tids % 2 ^ 32 }
flat (Reply.Pids pids) = record (blank 7) { count = length pids % 2 ^ 32 }
flat (Reply.Mask mask) = record (blank 8) { mask = mask.0 }
flat (Reply.Handled pid status view index d) = flat_handled pid status view index d
flat (Reply.Stopped tid sig flags) = record (blank 10) { lwp = tid; signal = sig; flags = flags.0 }
flat (Reply.Caught sig) = record (blank 11) { signal = sig }
flat (Reply.Ended w) = record (blank 12) { status = w }
flat Reply.Held = blank 13
flat (Reply.Errno e) = record (blank 14) { error = errno_number e }

-- ---- what a flat reply says

-- two replies are the same, except that a list counts by its length, in 32 bits, and a status by its word
pub data Alike : Reply → Reply → Type 0 where
  same : (r : Reply) → Alike r r
  lwps : (xs ys : List ℕ) → length xs % 2 ^ 32 ≡ length ys % 2 ^ 32 → Alike (Reply.Lwps xs) (Reply.Lwps ys)
  pids : (xs ys : List ℕ) → length xs % 2 ^ 32 ≡ length ys % 2 ^ 32 → Alike (Reply.Pids xs) (Reply.Pids ys)
  status : (pid : ℕ) (s t : StatusKind) → word s ≡ word t → Alike (Reply.Status pid s) (Reply.Status pid t)
  handled : (pid : ℕ) (s t : StatusKind) (view : StopView) (index : Option ℕ) (d : Decision) → word s ≡ word t
      → Alike (Reply.Handled pid s view index d) (Reply.Handled pid t view index d)

-- two replies with the same flat form are alike
abbrev pub FlatFormsDiffer : Type 0
FlatFormsDiffer = (q r : Reply) → flat q ≡ flat r → Alike q r

-- the status of a reply, if it has one, exists
abbrev pub HasStatus : Reply → Type 0
HasStatus (Reply.Status pid s) = IsStatus s
HasStatus (Reply.Handled pid s view index d) = IsStatus s
HasStatus r = ⊤

-- two replies whose statuses exist are the same reply if their flat forms are the same and they are no lists
abbrev pub OneReply : Type 0
OneReply = (q r : Reply) → HasStatus q → HasStatus r → is_listing q ≡ false → flat q ≡ flat r → q ≡ r
