-- From a process that ends down to its tracees, if a debugger's end kills and if it detaches.
use Rattle.std.specs.Prelude.{◌≡◌, ◌==◌, ◌&&◌, ◌||◌}
use Rattle.trace_rows.specs.CommonNames.{ℕ, Bool, true, false, ltb, Option, Some, option_map_or, list_any, ProcData, is_live, traces, Rows}
use Rattle.step_types.specs.declared.Settings.{Settings}
use Rattle.trace_rows.specs.End.{tracer_of, dooms, lost_signals}
use Rattle.trace_rows.specs.Sound.{is_live_at}

abbrev pub kills : Settings
kills = record { kill_on_debugger_exit = true }

abbrev pub spares : Settings
spares = record { kill_on_debugger_exit = false }

-- the signals that a tracee loses when its debugger ends, by the tracee's row
abbrev pub lost_at : Option ProcData → ℕ
lost_at tracee = option_map_or lost_signals tracee 0

-- whether the process numbered n traces a live process with a number above this one
abbrev pub traces_live_above : ℕ → ℕ → Rows → Bool
traces_live_above number n rows = list_any (λ r. ltb number r.pid && (is_live r && traces n r)) rows.processes

-- the process numbered t is live, and the one numbered n traces it
pub record IsLiveTracee (n : ℕ) (rows : Rows) (t : ℕ) : Type 0 where
  pub live : is_live_at t rows ≡ true
  pub link : tracer_of rows.processes t ≡ Some n

-- n is p, or the process n ends with p
abbrev pub EndsToo : ℕ → Rows → ℕ → Type 0
EndsToo p rows n = ((n == p) || dooms kills rows.processes p n) ≡ true
