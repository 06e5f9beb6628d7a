-- The calls on one handle, one after another, and what a user can tell of them.
use Rattle.std.specs.Prelude.{◌≡◌, ◌≢◌, ℕ, ◌==◌, ◌||◌, if◌then◌else◌, List, [], ◌∷◌, ◌++◌, Option, Some, None, option_map}
use Rattle.{requests.specs.Isolation.Apart, step_types.specs.{Plain.PlainStep, declared.Settings.Settings}, tracehost_c.specs.declared.replies.FlatReply.FlatReply}
use Rattle.open_sessions.specs.{Answers.LineReply, Calls.OpenSession, Laws.{Call, typed, by_line, AnswersCalls, PrivateCalls}}
use Rattle.tracehost_c.specs.Calls.{Gets, LineCall, TypedCall, opened}

-- a call that may change a session: one of a user, which is a step if its numbers are those of a step, or a line. All
-- others leave the session as it was, except those that put another one into the handle (`AnyCall`).
pub data HandleCall : Type 0 where
  typed_call : ℕ → Option PlainStep → HandleCall
  line_call : List ℕ → HandleCall

-- a call was made on a handle with this session before it and this one after it, and returned this code: what its
-- contract says
abbrev pub Made : HandleCall → (old new : Option OpenSession) → ℕ → Type 0
Made (typed_call user step) old new code = (before : FlatReply) × (after : FlatReply) × TypedCall user step old new before after code
Made (line_call text) old new code = LineCall text old new code

-- calls in order, with their codes
abbrev pub AllMade : List HandleCall → Option OpenSession → List ℕ → Option OpenSession → Type 0
AllMade [] old [] new = new ≡ old
AllMade (c ∷ cs) old (code ∷ codes) new = (mid : Option OpenSession) × Made c old mid code × AllMade cs mid codes new
AllMade cs old codes new = ⊥

-- the session's call that this one is, by its code: it was answered, or it is none. 4 is the code of a line that was
-- answered with no memory for its text.
abbrev pub answered_call : HandleCall → ℕ → Option Call
answered_call (typed_call user step) code = if code == 0 then option_map (λ s. typed (record { uid = user; step = s })) step else None
answered_call (line_call text) code = if (code == 0) || (code == 4) then Some (by_line text) else None

-- a call, if there is one, and others after it
abbrev pub and_then : Option Call → List Call → List Call
and_then None calls = calls
and_then (Some call) calls = call ∷ calls

-- the session's calls that were answered, in order
abbrev pub answered_calls : List HandleCall → List ℕ → List Call
answered_calls (c ∷ cs) (code ∷ codes) = and_then (answered_call c code) (answered_calls cs codes)
answered_calls cs codes = []

-- the handle stays open, the session's calls have their answers, and each user's replies and view are those of the
-- user's own steps without any other user
pub record PrivateHandle (calls : List HandleCall) (codes : List ℕ) (s : OpenSession) (new : Option OpenSession) : Type 0 where
  pub session : OpenSession
  pub answers : List LineReply
  pub open_still : new ≡ Some session
  pub answered : AnswersCalls (answered_calls calls codes) s answers session
  pub own : PrivateCalls (answered_calls calls codes) answers s session

-- so it is for all calls from a session on whose host keeps users apart
abbrev pub HandleCallsArePrivate : Type 0
HandleCallsArePrivate = (calls : List HandleCall) (codes : List ℕ) (s : OpenSession) (new : Option OpenSession) → Apart s.host
    → AllMade calls (Some s) codes new → PrivateHandle calls codes s new

-- ---- any calls on any handles

-- a call on one of many handles, which have numbers: it opens or closes one, copies the session of one into another, also
-- over the session there, or is a call on one
pub data AnyCall : Type 0 where
  opens : ℕ → Settings → AnyCall
  copies : (from to : ℕ) → AnyCall
  closes : ℕ → AnyCall
  calls : ℕ → HandleCall → AnyCall

-- the session of each handle, if it is open
abbrev pub Handles : Type 0
Handles = ℕ → Option OpenSession

-- a handle's session was changed so, and no other handle's
abbrev pub Changes : ℕ → (Option OpenSession → Option OpenSession → Type 0) → (old new : Handles) → Type 0
Changes h Does old new = Does (old h) (new h) × ((i : ℕ) → i ≢ h → new i ≡ old i)

-- a call was made, and returned this code: what its contract says
abbrev pub MadeOne : AnyCall → (old new : Handles) → ℕ → Type 0
MadeOne (opens h settings) old new code = Changes h (λ s t. Gets (Some (opened settings)) s t code) old new
MadeOne (copies from to) old new code = Changes to (λ s t. Gets (old from) s t code) old new
MadeOne (closes h) old new code = Changes h (λ s t. t ≡ None) old new
MadeOne (calls h c) old new code = Changes h (λ s t. Made c s t code) old new

-- calls in order, with their codes
abbrev pub AllMadeAt : List AnyCall → Handles → List ℕ → Handles → Type 0
AllMadeAt [] old [] new = (i : ℕ) → new i ≡ old i
AllMadeAt (c ∷ cs) old (code ∷ codes) new = (mid : Handles) × MadeOne c old mid code × AllMadeAt cs mid codes new
AllMadeAt cs old codes new = ⊥

-- the history of an open handle's session: the settings that it was opened with, and the calls that were answered since,
-- of a copy those of its source first
pub record History : Type 0 where
  pub settings : Settings
  pub calls : List Call

-- one more call, if it was answered
abbrev pub longer : Option Call → History → History
longer None history = history
longer (Some call) history = record history { calls = history.calls ++ (call ∷ []) }

abbrev pub Histories : Type 0
Histories = ℕ → Option History

abbrev pub with_history : ℕ → Option History → Histories → Histories
with_history h history all = λ i. if i == h then history else all i

-- the histories after a call with this code
abbrev pub after_call : AnyCall → ℕ → Histories → Histories
after_call (opens h settings) code all = if code == 0 then with_history h (Some (record { settings = settings; calls = [] })) all else all
after_call (copies from to) code all = if code == 0 then with_history to (all from) all else all
after_call (closes h) code all = with_history h None all
after_call (calls h c) code all = with_history h (option_map (longer (answered_call c code)) (all h)) all

-- the histories after calls, if no handle was open before them
abbrev pub after_calls : List AnyCall → List ℕ → Histories → Histories
after_calls (c ∷ cs) (code ∷ codes) all = after_calls cs codes (after_call c code all)
after_calls cs codes all = all

abbrev pub histories_of : List AnyCall → List ℕ → Histories
histories_of cs codes = after_calls cs codes (λ h. None)

-- the calls of a history, made in a session of their own, have these answers and lead to the session; and each user's
-- replies and view are those of the user's own steps without any other user
pub record LeadsTo (history : History) (s : OpenSession) : Type 0 where
  pub answers : List LineReply
  pub answered : AnswersCalls history.calls (opened history.settings) answers s
  pub own : PrivateCalls history.calls answers (opened history.settings) s

-- so it is for the session of each open handle, after any calls on any handles
abbrev pub AllCallsArePrivate : Type 0
AllCallsArePrivate = (cs : List AnyCall) (codes : List ℕ) (now : Handles) → AllMadeAt cs (λ h. None) codes now
    → (h : ℕ) (s : OpenSession) → now h ≡ Some s → (history : History) × (histories_of cs codes h ≡ Some history) × LeadsTo history s
