-- The rule of the table, and the knowledge that each step gives.
use Rattle.std.specs.Prelude.{◌≡◌, ◌⊎◌, ℕ, zero, suc, ◌+◌, ◌-◌, ◌*◌, ◌<◌, ◌≤◌, ◌==◌, List, [], ◌∷◌, ◌++◌, length, take, drop, leb, Option, Some, None, IfSome, MatchBool, Bool, true, false, if◌then◌else◌}
use Rattle.std.specs.declared.snapshot.Snapshot.{Snapshot}
use Rattle.{atomic_table.specs.{Table.{State, Me}, Seated.TableId}, requests.specs.{Machine.{Machine, empty}}}
use Rattle.step_types.specs.{Plain.PlainStep, Replies.is_memory, declared.Reply.Reply}
use Rattle.host_lock.specs.{declared.{journal.Entry.Entry, view.HostSlot.{HostSlot, TheVariants.{Present, Taken}}}, Views.{Stage, Idle, Waiting, Holding, Counted, Account, View, spent}, History.History}
use Rattle.host_lock.specs.{History.history, Limits.{max_sessions, max_calls}, Journal.{IsLegal, entries_of, StartsWith, entry, next_entry}}
use mathlib.Core.Option.{none, some}
use lib.ListN.{get_elem?}
use mathlib.Core.Option as maybe
use Rattle.atomic_table.specs.Table as table

abbrev pub total : {V : Type 0} → (V → ℕ) → List V → ℕ
total f [] = 0
total f (v ∷ vs) = f v + total f vs

abbrev pub Each : {A : Type 0} → (A → Type 0) → List A → Type 0
Each P [] = Unit {0}
Each P (x ∷ xs) = P x × Each P xs

abbrev pub once : ℕ → ℕ → ℕ
once n t = if n == t then 1 else 0

-- whether the ticket t is out with this stage
abbrev pub has_ticket : ℕ → Stage → ℕ
has_ticket t Idle = 0
has_ticket t (Waiting n) = once n t
has_ticket t (Holding n) = once n t
has_ticket t (Counted n) = once n t

-- whether the slot is out with this stage
abbrev pub has_slot : Stage → ℕ
has_slot Idle = 0
has_slot (Waiting n) = 0
has_slot (Holding n) = 1
has_slot (Counted n) = 1

-- whether the stage waits for the ticket n
abbrev pub awaits : ℕ → Stage → Bool
awaits n Idle = false
awaits n (Waiting t) = n == t
awaits n (Holding t) = false
awaits n (Counted t) = false

-- whether a call is still to be counted
abbrev pub owes : Stage → ℕ
owes Idle = 0
owes (Waiting n) = 1
owes (Holding n) = 1
owes (Counted n) = 0

abbrev pub account : ℕ → List Entry → Account
account n mine = record { number = n; mine = mine }

-- how many of the accounts have the number
abbrev pub times : ℕ → List Account → ℕ
times n [] = 0
times n (x ∷ xs) = once x.number n + times n xs

-- the log's entries of this number are these
abbrev pub Matches : ℕ → List Entry → Account → Type 0
Matches sessions log x = (entries_of x.number log ≡ x.mine) × (x.number < sessions)

-- a seat with the slot has the ticket that is served, and knows the whole log
abbrev pub AtTurn : ℕ → List Entry → Stage → List (List Entry) → Type 0
AtTurn serving log Idle known = Unit {0}
AtTurn serving log (Waiting t) known = Unit {0}
AtTurn serving log (Holding t) known = (t ≡ serving) × (known ≡ log ∷ [])
AtTurn serving log (Counted t) known = (t ≡ serving) × (known ≡ log ∷ [])

pub record Fits (start : Machine) (sessions serving : ℕ) (log : List Entry) (v : View) : Type 0 where
  pub start_is : IfSome v.start (λ h. h ≡ start)
  pub known_is : Each (StartsWith log) v.known
  pub owns_is : Each (Matches sessions log) v.owns
  pub turn_is : AtTurn serving log v.stage v.known
  -- a seat that owns no session has no slot
  pub works : has_slot v.stage ≤ length v.owns

abbrev pub ticket_of : ℕ → View → ℕ
ticket_of t v = has_ticket t v.stage

abbrev pub slot_of : View → ℕ
slot_of v = has_slot v.stage

abbrev pub number_of : ℕ → View → ℕ
number_of n v = times n v.owns

abbrev pub parts_of : View → ℕ
parts_of v = length v.owns

abbrev pub budget_of : View → ℕ
budget_of v = v.budget

abbrev pub calls_of : View → ℕ
calls_of v = v.budget + owes v.stage

abbrev pub staged : View → Stage → View
staged v g = record v { stage = g }

abbrev pub drawn : View → ℕ → View
drawn v n = record v { stage = Waiting n; budget = v.budget - 1 }

abbrev pub taken : View → ℕ → List Entry → View
taken v t log = record v { stage = Holding t; known = log ∷ [] }

abbrev pub Tells : List Entry → Account → Type 0
Tells log x = entries_of x.number log ≡ x.mine

abbrev pub first_known : List (List Entry) → List Entry
first_known [] = []
first_known (x ∷ xs) = x

abbrev pub first_owned : List Account → Account
first_owned [] = account 0 []
first_owned (x ∷ xs) = x

abbrev pub ticket_in : Stage → ℕ
ticket_in Idle = 0
ticket_in (Waiting n) = n
ticket_in (Holding n) = n
ticket_in (Counted n) = n

abbrev pub with_entry : Entry → View → View
with_entry e v =
    record v { stage = Counted (ticket_in v.stage); known = (first_known v.known ++ e ∷ []) ∷ []; owns = account (first_owned v.owns).number ((first_owned v.owns).mine ++ e ∷ []) ∷ [] }

abbrev pub counts : Option (Machine) → ℕ → PlainStep → View → View
counts None u s v = v
counts (Some h) u s v = with_entry (next_entry h (first_known v.known) u (first_owned v.owns).number s) v

-- k numbers from n on, whose sessions have made no call
abbrev pub fresh : ℕ → ℕ → List Account
fresh n zero = []
fresh n (suc k) = account n [] ∷ fresh (n + 1) k

abbrev pub fresh_view : Machine → ℕ → ℕ → View
fresh_view h n k = record { start = Some h; stage = Idle; budget = k * max_calls; known = [] ∷ []; owns = fresh n k }

abbrev pub opening_view : Machine → ℕ → View
opening_view h sessions = fresh_view h 0 sessions

-- how many sessions the seat owns beside its first one
abbrev pub others : View → ℕ
others v = length v.owns - 1

-- a seat that is split keeps its first session
abbrev pub split_left : View → View
split_left v = record v { budget = v.budget - others v * max_calls; owns = take 1 v.owns }

-- the new seat knows the same, and owns the other sessions, which have made no call
abbrev pub split_right : View → View
split_right v = record v { budget = others v * max_calls; owns = drop 1 v.owns }

abbrev pub both : View → View → View
both v w = record v { budget = v.budget + w.budget; known = v.known ++ w.known; owns = v.owns ++ w.owns }

-- the view of a seat that owns no session
abbrev pub moment_view : Machine → List Entry → View
moment_view h known = record { start = Some h; stage = Idle; budget = 0; known = known ∷ []; owns = [] }

abbrev pub longer : List Entry → List Entry → List Entry
longer x y = if leb (length y) (length x) then x else y

-- the longest one of a list and the others
abbrev pub longest_of : List Entry → List (List Entry) → List Entry
longest_of x [] = x
longest_of x (y ∷ ys) = longest_of (longer x y) ys

abbrev pub longest : List (List Entry) → List Entry
longest [] = []
longest (x ∷ xs) = longest_of x xs

-- what the slot contains of a step that is being made
abbrev pub snapshot_of : PlainStep → Snapshot PlainStep
snapshot_of s = record { marker = record {}; value = s }

-- the view of the seat of one session
abbrev pub session_view : Machine → Stage → ℕ → List Entry → ℕ → List Entry → View
session_view h g b known n mine = record { start = Some h; stage = g; budget = b; known = known ∷ []; owns = account n mine ∷ [] }

-- an unused host
abbrev pub nobody : Machine
nobody = empty (record { kill_on_debugger_exit = true })

abbrev pub rows_or : Option (Machine) → Machine
rows_or None = nobody
rows_or (Some h) = h

abbrev pub start_of : View → Machine
start_of v = rows_or v.start

abbrev pub known_of : View → List Entry
known_of v = first_known v.known

abbrev pub mine_of : View → List Entry
mine_of v = (first_owned v.owns).mine

-- the view of a session between two calls
abbrev pub IsAtRest : ℕ → ℕ → View → Type 0
IsAtRest number calls v = v ≡ session_view (start_of v) Idle (max_calls - calls) (known_of v) number (mine_of v)

-- the view of a badge
abbrev pub view_in : List View → View
view_in [] = spent
view_in (v ∷ vs) = v

-- the table has three words and one slot
abbrev pub IsHostTable : TableId → Type 0
IsHostTable z = (z.words ≡ 3) × (z.slots ≡ 1)

abbrev pub M : Type 0 → Type 0 → Type 0
M F J = Me (HostSlot F J) View

abbrev pub At : Type 0 → Type 0 → Type 0
At F J = table.Step (HostSlot F J)

module _ {F J : Type 0} where
  -- the slot holds the rows at opening and the whole log; or it is out with one seat
  abbrev pub InSlot : Machine → List Entry → List View → List (maybe.Option (HostSlot F J)) → Type 0
  InSlot start log views homes =
      ((total slot_of views ≡ 0) × (homes ≡ some (Present (history start log)) ∷ [])) ⊎ ((total slot_of views ≡ 1) × (homes ≡ none ∷ []))

  pub record SharedInvariant (start : Machine) (sessions : ℕ) (s : State (HostSlot F J) View) : Type 0 where
    pub serving : ℕ
    pub ticket : ℕ
    -- the longest list
    pub log : List Entry
    pub words : s.words ≡ serving ∷ ticket ∷ length log ∷ []
    -- each seat's lists are beginnings of it, and it contains the entries of the seat's sessions
    pub seats : (id : ℕ) (v : View) → get_elem? s.views id ≡ some v → Fits start sessions serving log v
    pub slot : InSlot start log s.views s.homes
    -- the sessions' numbers differ, and there are as many as sessions
    pub numbers : (n : ℕ) → total (number_of n) s.views ≤ 1
    pub parts : total parts_of s.views ≡ sessions
    -- each entry has the number of a session
    pub given : Each (λ (e : Entry). e.session < sessions) log
    -- tickets out are ticket less serving
    pub in_order : serving ≤ ticket
    pub out : (t : ℕ) → serving ≤ t → t < ticket → total (ticket_of t) s.views ≡ 1
    pub past : (t : ℕ) → t < serving → total (ticket_of t) s.views ≡ 0
    pub later : (t : ℕ) → ticket ≤ t → total (ticket_of t) s.views ≡ 0
    -- so that no word wraps
    pub tickets_left : total budget_of s.views + ticket ≤ max_sessions * max_calls
    pub calls_left : total calls_of s.views + length log ≤ max_sessions * max_calls

  abbrev pub drew : At F J → M F J → ℕ → M F J → Type 0
  drew st m n m' = m' ≡ (drawn m.0 n, m.1)

  -- the host is out with the seat, which knows the whole log
  abbrev pub Takes : M F J → ℕ → List Entry → M F J → Type 0
  Takes m t log m' = (start : Machine) × IfSome m.0.start (λ h. h ≡ start) × (m' ≡ (taken m.0 t log, (0, Present (history start log)) ∷ m.1))

  -- the seat keeps the longest list that it knows
  abbrev pub KeepsLongest : M F J → M F J → Type 0
  KeepsLongest m m' = m' ≡ (record m.0 { known = longest m.0.known ∷ [] }, m.1)

  -- the lists that the seat knows are beginnings of one log, which has the entries of its sessions; its turn comes if it waits for the ticket that is served
  abbrev pub looked : At F J → M F J → ℕ → M F J → Type 0
  looked st m n m' =
      (log : List Entry) × Each (StartsWith log) m.0.known × Each (Tells log) m.0.owns × MatchBool (awaits n m.0.stage) (Takes m n log m') (KeepsLongest m m')

  abbrev pub count_slot : (HostSlot F J) → View → View
  count_slot (Present k) v = v
  count_slot (Taken u s) v = counts v.start u s.value v

  -- the call whose step is in the seat's slot
  abbrev pub count_in : List (ℕ × (HostSlot F J)) → View → View
  count_in [] v = v
  count_in (x ∷ xs) v = count_slot x.1 v

  abbrev pub counted : At F J → M F J → ℕ → M F J → Type 0
  counted st m n m' = m' ≡ (count_in m.1 m.0, m.1)

  abbrev pub released : At F J → M F J → ℕ → M F J → Type 0
  released st m n m' = m' ≡ (staged m.0 Idle, [])

  -- the knowledge at the end about a seat that was joined with all others
  abbrev pub Closes : Machine → ℕ → View → List (HostSlot F J) → Type 0
  Closes h n v xs =
      (log : List Entry) × (get_elem? xs 0 ≡ some (Present (history h log))) × IfSome v.start (λ z. z ≡ h) × Each (StartsWith log) v.known × Each (Matches n log) v.owns × Each (λ (e : Entry). e.session < n) log

  -- the slot is out with the seat, which knows the log so far
  abbrev pub TakesSlot : View → ℕ → ℕ → M F J → Type 0
  TakesSlot v number ticket m' =
      (log : List Entry) × (m' ≡ (session_view (start_of v) (Holding ticket) v.budget log number (mine_of v), (0, Present (history (start_of v) log)) ∷ [])) × StartsWith log (known_of v) × (entries_of number log ≡ mine_of v)

  -- the call is counted
  abbrev pub HasCounted : View → ℕ → ℕ → PlainStep → ℕ → M F J → Type 0
  HasCounted v u number s ticket m' =
      let e = next_entry (start_of v) (known_of v) u number s in
      m' ≡ (session_view (start_of v) (Counted ticket) v.budget (known_of v ++ e ∷ []) number (mine_of v ++ e ∷ []), (0, Taken u (snapshot_of s)) ∷ [])

  -- one turn is over: after the log, no entry or one, which is the call's
  abbrev pub HasTurned : View → ℕ → ℕ → PlainStep → Reply → M F J → Type 0
  HasTurned v u number s r m' =
      (log : List Entry) × StartsWith log (known_of v) × (entries_of number log ≡ mine_of v)
      × MatchBool (is_memory r) (IsLegal (start_of v) log × (m' ≡ (session_view (start_of v) Idle (v.budget - 1) log number (mine_of v), [])))
      (let e = entry u number s r in
      IsLegal (start_of v) (log ++ e ∷ []) × (m' ≡ (session_view (start_of v) Idle (v.budget - 1) (log ++ e ∷ []) number (mine_of v ++ e ∷ []), [])))

  -- the seat now also knows these entries
  abbrev pub HasLearned : View → ℕ → List Entry → M F J → Type 0
  HasLearned v number front m' =
      (known : List Entry) × (m' ≡ (session_view (start_of v) Idle v.budget known number (mine_of v), [])) × StartsWith known (known_of v) × StartsWith known front × IsLegal (start_of v) known × (entries_of number known ≡ mine_of v)

  -- the slot is out with the seat, and the seat's last list is that of k
  abbrev pub IsOut : ℕ → History → M F J → Type 0
  IsOut number k m = (g : Stage) × (x : (HostSlot F J)) × (has_slot g ≡ 1) × (m ≡ (session_view k.start g m.0.budget k.log number (mine_of m.0), (0, x) ∷ []))
