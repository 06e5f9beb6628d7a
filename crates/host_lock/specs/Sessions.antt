-- A session and the shared host, as contracts see them.
use Rattle.std.specs.Prelude.{◌≡◌, ℕ, ◌+◌, ◌<◌, ◌≤◌, length, map, Some, List, [], ◌∷◌, ◌++◌, MatchBool}
use Rattle.{atomic_table.specs.Seated.TableId, requests.specs.{Machine.Machine}, host_lock.specs.declared.journal.Entry.Entry}
use Rattle.step_types.specs.{Plain.PlainStep, Replies.is_memory, declared.Reply.Reply}
use Rattle.host_lock.specs.{Journal.{IsLegal, StartsWith, entries_of, entry}, Limits.max_sessions, Rule.account, Views.{Idle, Account, View}}

pub record SessionData : Type 0 where
  pub uid : ℕ
  pub number : ℕ
  pub calls : ℕ
  pub known : List Entry
  pub mine : List Entry
  pub host : TableId
  pub start : Machine

pub record MomentData : Type 0 where
  pub known : List Entry
  pub host : TableId
  pub start : Machine

pub record HostData : Type 0 where
  pub id : TableId
  pub start : Machine
  pub sessions : ℕ

-- the session is of this host
abbrev pub IsOf : HostData → SessionData → Type 0
IsOf h s = (s.host ≡ h.id) × (s.start ≡ h.start)

-- the moment is of a session of this host
abbrev pub IsMomentOf : HostData → MomentData → Type 0
IsMomentOf h m = (m.host ≡ h.id) × (m.start ≡ h.start)

-- the known part of the journal is legal, and its entries of this session are the session's own
abbrev pub IsTrue : SessionData → Type 0
IsTrue s = IsLegal s.start s.known × (entries_of s.number s.known ≡ s.mine)

-- the same session, one call later
abbrev pub Goes : SessionData → SessionData → Type 0
Goes v w = (w.uid ≡ v.uid) × (w.number ≡ v.number) × (w.calls ≡ v.calls + 1) × (w.host ≡ v.host) × (w.start ≡ v.start)

-- the known part of the journal begins with the part known before, and ends with the call, a new one of the session
abbrev pub Makes : SessionData → PlainStep → Reply → SessionData → Type 0
Makes v s r w =
    (log : List Entry) × StartsWith log v.known × (w.known ≡ log ++ entry v.uid v.number s r ∷ []) × (w.mine ≡ v.mine ++ entry v.uid v.number s r ∷ [])

-- the effect of an answered call
abbrev pub Replies : SessionData → PlainStep → Reply → SessionData → Type 0
Replies v s r w = Goes v w × MatchBool (is_memory r) (StartsWith w.known v.known × (w.mine ≡ v.mine)) (Makes v s r w)

abbrev pub IsSame : SessionData → SessionData → Type 0
IsSame v w = (w.uid ≡ v.uid) × (w.number ≡ v.number) × (w.host ≡ v.host) × (w.start ≡ v.start)

-- the session is as it was, but now also knows these entries
abbrev pub Learns : List Entry → SessionData → SessionData → Type 0
Learns front v w = IsSame v w × (w.calls ≡ v.calls) × (w.mine ≡ v.mine) × StartsWith w.known v.known × StartsWith w.known front

-- at the end: the journal begins with the part that the session knows, and its entries of the session are its own
abbrev pub InJournal : List Entry → SessionData → Type 0
InJournal log s = StartsWith log s.known × (entries_of s.number log ≡ s.mine)

-- a session that has made no call
abbrev pub new_session : ℕ → ℕ → TableId → Machine → SessionData
new_session u n z h = record { uid = u; number = n; calls = 0; known = []; mine = []; host = z; start = h }

-- one for each uid, numbered from n
abbrev pub new_sessions : ℕ → TableId → Machine → List ℕ → List SessionData
new_sessions n z h [] = []
new_sessions n z h (u ∷ us) = new_session u n z h ∷ new_sessions (n + 1) z h us

abbrev pub IsOpenable : List ℕ → Type 0
IsOpenable us = (0 < length us) × (length us ≤ max_sessions)

abbrev pub IsAt : TableId → Machine → SessionData → Type 0
IsAt z h s = (s.host ≡ z) × (s.start ≡ h)

abbrev pub IsBelow : ℕ → Entry → Type 0
IsBelow n e = e.session < n

abbrev pub account_of : SessionData → Account
account_of s = account s.number s.mine

abbrev pub known_by : SessionData → List Entry
known_by s = s.known

-- a seat that owns all these sessions
abbrev pub gathered : Machine → List SessionData → ℕ → View
gathered h order b = record { start = Some h; stage = Idle; budget = b; known = map known_by order; owns = map account_of order }
