-- The result of a run of scripts.
use Rattle.std.specs.{Prelude.{◌≡◌, ℕ, ◌<◌, ◌≤◌, ◌==◌, List, map, filter, length, Vec, vec_len, slice_index_or}, Global.Global}
use Rattle.{host_lock.specs.{declared.journal.Entry.Entry, Journal.{asked, replay, entries_of}, Limits.{max_sessions, max_calls}}, pid_blocks.specs.Users.IsUser, requests.specs.Machine.Machine}
use Rattle.{requests.specs.{Run.{replies, last}, View.{view, alone}}, sessions.specs.declared.script.{Script.Script, Transcript.Transcript}}
use Rattle.step_types.specs.{Plain.PlainStep, declared.Reply.Reply}
use Rattle.sessions.specs.{declared.script.RunRefusal.{RunRefusal, TheVariants.{TooMany, Memory, Start}}, Made.made}

-- one session can make all the steps
abbrev pub IsShort : {F : Type 0} → Script F → Type 0
IsShort s = vec_len s.steps ≤ max_calls

-- a script's user and steps
abbrev pub plain_script : {F : Type 0} → Script F → ℕ × List PlainStep
plain_script s = (s.uid, s.steps.items)

-- the replies themselves, if they are handed out
abbrev pub whole : Vec Reply Global → List Reply
whole replies = replies.items

-- the transcript has one reply for each step of a script, in order, if `plain` gives its user and steps; the journal's entries of this number are the steps with their
-- replies, except those with the reply ENOMEM
abbrev pub Plays : {S O : Type 0} → (S → ℕ × List PlainStep) → (O → List Reply) → List Entry → ℕ → S → Transcript O → Type 0
Plays plain made_of log k s t =
    (t.uid ≡ (plain s).0) × (length (made_of t.replies) ≡ length (plain s).1) × (entries_of k log ≡ made (plain s).0 k (plain s).1 (made_of t.replies))

-- one transcript for each script, in order
abbrev pub AllPlay : {S O : Type 0} → (S → ℕ × List PlainStep) → (O → List Reply) → List Entry → List S → List (Transcript O) → Type 0
AllPlay {S} {O} plain made_of log ss ts =
    (length ts ≡ length ss) × ((k : ℕ) (s : S) (t : Transcript O) → k < length ss → Plays plain made_of log k (slice_index_or ss k s) (slice_index_or ts k t))

-- each transcript was made as its script's report has it
abbrev pub AllTell : {S O : Type 0} → (S → ℕ → O → Type 0) → List S → List (Transcript O) → Type 0
AllTell {S} {O} tells ss ts = (k : ℕ) (s : S) (t : Transcript O) → k < length ss → tells (slice_index_or ss k s) (slice_index_or ts k t).uid (slice_index_or ts k t).replies

-- the entries of a user
abbrev pub entries_by : ℕ → List Entry → List Entry
entries_by u log = filter (λ e. e.uid == u) log

-- every user's entries have the replies that the machine gives to the user's own steps if no other user has made a
-- step, and the user's view at the end is the same
abbrev pub OwnEntries : Machine → List Entry → Type 0
OwnEntries m log = (u : ℕ) → IsUser u
    → (map (λ e. e.reply) (entries_by u log) ≡ replies (asked (entries_by u log)) (alone u m))
    × (view u (replay m log) ≡ view u (last (asked (entries_by u log)) (alone u m)))

-- the refusals of a run of n scripts
abbrev pub RefusesFor : ℕ → RunRefusal → Type 0
RefusesFor n TooMany = max_sessions < n
RefusesFor n Memory = (0 < n) × (n ≤ max_sessions)
RefusesFor n Start = (0 < n) × (n ≤ max_sessions)
