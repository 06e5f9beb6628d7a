-- Wait statuses, their words, and the options of a wait.
use Rattle.std.specs.Prelude.{◌≡◌, ◌≢◌, ⊤, ℕ, Bool, true, false, ◌==◌, not, ◌+◌, ◌*◌, ◌/◌, ◌%◌, ◌<◌, ◌≤◌, if◌then◌else◌}
use Rattle.signals.specs.Table.{SIGCONT}
use Rattle.step_types.specs.{declared.Options.Options, declared.StatusKind.StatusKind, declared.StatusKind.TheVariants.Continued, declared.StatusKind.TheVariants.Exited}
use Rattle.step_types.specs.{declared.StatusKind.TheVariants.Signaled, declared.StatusKind.TheVariants.Stopped}

-- SIGCONT ends no process
abbrev pub is_status : StatusKind → Bool
is_status (Signaled s) = not (s == SIGCONT)
is_status other = true

-- a kind of status, whose code or signal is in its range
abbrev pub IsStatus : StatusKind → Type 0
IsStatus (Exited code) = code < 256
IsStatus (Signaled s) = (1 ≤ s) × (s ≤ 31) × (s ≢ SIGCONT)
IsStatus (Stopped s) = (1 ≤ s) × (s ≤ 31)
IsStatus Continued = ⊤

abbrev pub word : StatusKind → ℕ
word (Exited code) = code * 256
word (Signaled s) = s
word (Stopped s) = s * 256 + 127
word Continued = 19

-- how a process ended, from its word
abbrev pub ended : ℕ → StatusKind
ended w = if w % 256 == 0 then Exited (w / 256) else Signaled w

-- no two statuses have the same word
abbrev pub WordsDiffer : Type 0
WordsDiffer = (s t : StatusKind) → IsStatus s → IsStatus t → word s ≡ word t → s ≡ t

abbrev pub no_options : Options
no_options = record { untraced = false; continued = false }
