-- The answers of open, call and close.
use Rattle.std.specs.Prelude.{◌≡◌, ℕ, ◌<◌, List, ◌∷◌, ◌++◌, length, false}
use Rattle.{requests.specs.{Machine.Machine}, host_lock.specs.declared.host.OpenRefusal.{OpenRefusal, TheVariants.NoSessions}}
use Rattle.step_types.specs.declared.Reply.{Reply as AnyReply}
use Rattle.step_types.specs.{Plain.PlainStep, Replies.is_memory}
use Rattle.host_lock.specs.declared.host.{OpenRefusal.TheVariants.{TooMany, Memory}, CloseRefusal.{CloseRefusal, TheVariants.Missing}, Answer.{Answer, TheVariants.{Reply, Spent}}}
use Rattle.host_lock.specs.{declared.journal.Entry.Entry, Limits.{max_sessions, max_calls}, Journal.{StartsWith, entry}, Sessions.{SessionData, HostData, Replies, IsOpenable, InJournal}}

-- the answer to a call of a session, and the session after it
abbrev pub AnswersCall : SessionData → PlainStep → Answer → SessionData → Type 0
AnswersCall v s (Reply r) w = (v.calls < max_calls) × Replies v s r w
AnswersCall v s Spent w = (v.calls ≡ max_calls) × (w ≡ v)

-- A session makes a call, and later a session makes one that knows what the first then knew. In the journal at
-- the end, the entry of the first call comes before that of the second.
abbrev pub CallsInOrder : Type 0
CallsInOrder =
    (v v' w w' : SessionData) (s t : PlainStep) (r q : AnyReply) (journal : List Entry)
    → AnswersCall v s (Reply r) v' → is_memory r ≡ false → StartsWith w.known v'.known
    → AnswersCall w t (Reply q) w' → is_memory q ≡ false → InJournal journal w'
    → (front : List Entry) × (between : List Entry) × (rest : List Entry) × (journal ≡ front ++ entry v.uid v.number s r ∷ between ++ entry w.uid w.number t q ∷ rest)

-- the reason for a refused opening, and the host that is given back
abbrev pub RefusesFor : {F : Type 0} → Machine → List ℕ → OpenRefusal F → Type 0
RefusesFor host us (NoSessions h) = (h ≡ host) × (length us ≡ 0)
RefusesFor host us (TooMany h) = (h ≡ host) × (max_sessions < length us)
RefusesFor host us Memory = IsOpenable us

-- fewer sessions were handed in than were opened, and all is given back
abbrev pub GivesBack : {F J : Type 0} → HostData → List SessionData → CloseRefusal F J → Type 0
GivesBack h ss (Missing host sessions) = (host ≡ h) × (sessions.items ≡ ss) × (length ss < h.sessions)
