-- The result of a run of scripts that are given as users with their steps.
use Rattle.std.specs.Prelude.{◌≡◌, ℕ, ◌<◌, ◌≤◌, List, length, get_or, All}
use Rattle.{requests.specs.{Machine.Machine}, host_lock.specs.{declared.journal.Entry.Entry, Journal.{replay, entries_of, IsLegal}, Limits.max_calls}}
use Rattle.step_types.specs.{Plain.PlainStep, declared.Reply.Reply}
use Rattle.{host_lock.specs.Sessions.IsBelow, sessions.specs.{declared.script.Transcript.Transcript, Made.made, Runs.OwnEntries}}

-- one session can make all the steps
abbrev pub AreFew : ℕ × List PlainStep → Type 0
AreFew p = length p.1 ≤ max_calls

-- the same as `Plays` and `AllPlay`
abbrev pub Answers : {O : Type 0} → (O → List Reply) → List Entry → ℕ → ℕ × List PlainStep → Transcript O → Type 0
Answers made_of log k p t = (t.uid ≡ p.0) × (length (made_of t.replies) ≡ length p.1) × (entries_of k log ≡ made p.0 k p.1 (made_of t.replies))

abbrev pub AllAnswer : {O : Type 0} → (O → List Reply) → List Entry → List (ℕ × List PlainStep) → List (Transcript O) → Type 0
AllAnswer {O} made_of log ps ts = (length ts ≡ length ps) × ((k : ℕ) (p : ℕ × List PlainStep) (t : Transcript O) → k < length ps → Answers made_of log k (get_or ps k p) (get_or ts k t))

-- a run of scripts from the host m to the host h, with this journal and these transcripts
pub record RanBy {O : Type 0} (made_of : O → List Reply) (m : Machine) (ps : List (ℕ × List PlainStep)) (log : List Entry) (h : Machine) (ts : List (Transcript O)) : Type 0 where
  pub legal : IsLegal m log
  pub host : h ≡ replay m log
  pub entries : All (IsBelow (length ps)) log
  pub transcripts : AllAnswer made_of log ps ts
  pub own : OwnEntries m log

-- the same, without a journal
abbrev pub Ran : {O : Type 0} → (O → List Reply) → Machine → List (ℕ × List PlainStep) → Machine → List (Transcript O) → Type 0
Ran made_of m ps h ts = (log : List Entry) × RanBy made_of m ps log h ts
