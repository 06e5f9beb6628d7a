-- What runs of scripts give a user, for all schedules.
use Rattle.std.specs.{Prelude.{◌≡◌, ℕ, true, false, List, Some, map, Vec, vec_len, slice_get, All}, Global.Global, List.AllByRecursion}
use Rattle.{pid_blocks.specs.Users.IsUser, requests.specs.{Machine.Machine, Sound.sound, View.{view, alone}}, visibility.specs.ForeignLists.AlikeLists}
use Rattle.step_types.specs.{Replies.is_memory, declared.Reply.Reply}
use Rattle.{host_lock.specs.{declared.journal.Entry.Entry, Journal.{asked, IsLegal, replay}, Sessions.IsBelow}, sessions.specs.{declared.script.{Script.Script, Transcript.Transcript}, Runs.AllPlay}}
use Rattle.sessions.specs.Runs.{entries_by, plain_script, whole, OwnEntries}

-- what the clauses of `run_sessions` say of the host k, the journal and the transcripts of a run from the host m
pub record IsRun {F : Type 0} (m : Machine) (scripts : Vec (Script F) Global) (k : Machine) (log : List Entry) (ts : List (Transcript (Vec Reply Global))) : Type 0 where
  pub legal : IsLegal m log
  pub host : k ≡ replay m log
  pub entries : All (IsBelow (vec_len scripts)) log
  pub transcripts : AllPlay plain_script whole log scripts.items ts
  pub own : OwnEntries m log

-- the script s, in place i, is the only one of the user
abbrev pub IsOnlyScript : {F : Type 0} → ℕ → List (Script F) → ℕ → Script F → Type 0
IsOnlyScript {F} u ss i s = (slice_get ss i ≡ Some s) × (s.uid ≡ u) × ((j : ℕ) (z : Script F) → slice_get ss j ≡ Some z → z.uid ≡ u → j ≡ i)

-- no reply is ENOMEM
abbrev pub IsAnswered : Transcript (Vec Reply Global) → Type 0
IsAnswered t = AllByRecursion (λ r. is_memory r ≡ false) t.replies.items

-- two runs on hosts that show a user the same: if the user's only scripts in them have the same steps, and each of
-- these is answered, then the replies are the same, and so is what the user sees at the end
abbrev pub EverySchedule : Type 0 → Type 0
EverySchedule F = (m n : Machine) (scripts others : Vec (Script F) Global) (k l : Machine) (log journal : List Entry) (ts ws : List (Transcript (Vec Reply Global)))
    → IsRun m scripts k log ts → IsRun n others l journal ws
    → (u i j : ℕ) (s z : Script F) (t w : Transcript (Vec Reply Global)) → IsUser u → view u m ≡ view u n
    → IsOnlyScript u scripts.items i s → IsOnlyScript u others.items j z → s.steps.items ≡ z.steps.items
    → slice_get ts i ≡ Some t → slice_get ws j ≡ Some w → IsAnswered t → IsAnswered w
    → (t.replies.items ≡ w.replies.items) × (view u k ≡ view u l)

-- two journals from hosts that show a user the same: if the steps of the user's entries differ only in numbers that
-- the user doesn't see, then the replies are the same, and so is what the user sees at the end
abbrev pub AlikeJournals : Type 0
AlikeJournals = (m n : Machine) (log journal : List Entry) (u : ℕ) → IsUser u → sound m ≡ true → OwnEntries m log → OwnEntries n journal → view u m ≡ view u n
    → AlikeLists u (asked (entries_by u log)) (asked (entries_by u journal)) (alone u m)
    → (map (λ e. e.reply) (entries_by u log) ≡ map (λ e. e.reply) (entries_by u journal)) × (view u (replay m log) ≡ view u (replay n journal))
