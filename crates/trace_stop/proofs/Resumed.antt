-- A stopped process that runs on.
use Rattle.trace_stop.proofs.CommonNames.{◌≡◌, ◌==◌, ℕ, true, refl, arith, nat_tests, subst, Some, is_some, own_row, process_of, process_of-pid, ProcData, Resumption, Rows, IsSound, FitProcess, is_live, is_live_at, reporting, resumed, running, live_found, every_found, ap, if◌then◌else◌, detached, is_numbered}
use Rattle.std.specs.Prelude.{IsSomeAnd}
use Rattle.trace_rows.specs.{Detach.signal_alone, Stop.{detach, ends_process, resume}}
use Rattle.step_types.specs.declared.Settings.{Settings}
use Rattle.trace_rows.proofs.SoundAfterDetach.{resumed_sound, resumed_row}

module _ (rows : Rows) (p : ProcData) (sound : IsSound rows) (at : process_of p.pid rows.processes ≡ Some p) (reports : is_some (reporting p) ≡ true) where
  pub stopped_live : is_live p ≡ true
  stopped_live = grind (arith, nat_tests, reports)

  pub stopped_traced : is_some p.tracer ≡ true
  stopped_traced = (every_found FitProcess (λ q. q.pid == p.pid) rows.processes p sound.processes at).stopped reports

  pub stopped : is_live_at p.pid rows ≡ true
  stopped = live_found rows p.pid p at stopped_live

  module _ (how : Resumption) (rows' : Rows) (made : rows' ≡ resumed how p.pid rows) where
    pub runs_sound : IsSound rows'
    runs_sound = rw made (resumed_sound how rows p.pid p sound at stopped_live stopped_traced)

    pub runs_live : is_live_at p.pid rows' ≡ true
    runs_live = rw made (live_found (resumed how p.pid rows) p.pid (running how.adds p) (resumed_row how rows p.pid p sound at stopped_live stopped_traced) refl)

pub detach_ends : (settings : Settings) (pid s : ℕ) (rows : Rows) → ends_process s (process_of pid rows.processes) ≡ true → detach settings pid s rows ≡ resume settings (signal_alone s) pid rows
detach_ends settings pid s rows is = ap (λ b. if b then resume settings (signal_alone s) pid rows else detached (is_numbered pid) (λ p. 0) rows) is

-- a stopped process that is found by its number
pub found_stops : (n : ℕ) (rows : Rows) (p : ProcData) → process_of n rows.processes ≡ Some p → IsSomeAnd (process_of n rows.processes) (λ q. is_some (reporting q) ≡ true) → is_some (reporting p) ≡ true
found_stops n rows p found stops = subst (λ o. IsSomeAnd o (λ q. is_some (reporting q) ≡ true)) found stops

pub ruleset stopped_row = (found_stops, own_row, process_of-pid)
