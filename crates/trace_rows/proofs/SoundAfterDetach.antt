-- Resuming, detaching and ending keep rows sound.
use Rattle.trace_rows.proofs.CommonNames.{nat_tests, AllByRecursion, ProcData, is_live, traces, process_of, Rows, is_numbered, running, steps, Resumption, is_some, untraced, untraced_lwp, resumed, detached, end_of, end, is_end}
use Rattle.trace_rows.proofs.CommonNames.{IsSound, ◌≡◌, ℕ, Bool, true, false, ◌&&◌, if◌then◌else◌, Some, refl, subst, arith, rules, Settings, process_of-pid, lost_signals}
use Rattle.trace_rows.proofs.SoundAfterEnd.{end_of_killing, end_of_sparing}
use Rattle.trace_rows.proofs.SoundAfterRunOn.{run_on_sound}
use Rattle.trace_rows.proofs.CommonLemmas.{and_left, All-imply, All-edit, All-any, choose, changed_row, without_apart, the_row, own_rows}

-- Resuming

module _ (how : Resumption) (rows : Rows) (pid : ℕ) (p : ProcData) (s : IsSound rows) (at : process_of pid rows.processes ≡ Some p) (live : is_live p ≡ true) (traced : is_some p.tracer ≡ true) where
  pub resumed_sound : IsSound (resumed how pid rows)
  resumed_sound = run_on_sound rows (is_numbered pid) (running how.adds) (λ q l. steps how.stepping l) s (search (rules)) (All-imply _ _ (λ q one. grind (arith, nat_tests, one, live, traced)) rows.processes (the_row pid rows.processes p s.stands.rising at))

  pub resumed_row : process_of pid (resumed how pid rows).processes ≡ Some (running how.adds p)
  resumed_row = grind (arith, nat_tests, changed_row pid (is_numbered pid) (running how.adds) rows.processes p (λ q. refl) at, process_of-pid pid p rows.processes at)

-- Detaching

module _ (chosen : ProcData → Bool) (lost : ProcData → ℕ) where
  abbrev free : ProcData → ProcData
  free p = untraced (lost p) p

  pub detached_sound : (rows : Rows) → IsSound rows → ((r : ProcData) → process_of r.pid rows.processes ≡ Some r → chosen r ≡ true → is_live r ≡ true) → IsSound (detached chosen lost rows)
  detached_sound rows s live = run_on_sound rows chosen free (λ p l. untraced_lwp (lost p) p l) s (search (rules)) (All-imply _ _ (λ p own. record { live = live p own; fits = λ c fit. search (rules, without_apart); fit_lwp = λ c l silent fit. search (rules, without_apart) }) rows.processes (own_rows rows.processes s.stands.rising))

-- Ending

abbrev tracee : ℕ → ProcData → Bool
tracee n q = is_live q && traces n q

module _ (settings : Settings) (rows : Rows) (p : ProcData) (s : IsSound rows) (at : process_of p.pid rows.processes ≡ Some p) (live : is_live p ≡ true) (status : ℕ) (word : is_end status ≡ true) where
  abbrev left : Rows
  left = detached (tracee p.pid) lost_signals rows

  abbrev q : ProcData
  q = if tracee p.pid p then untraced (lost_signals p) p else p

  number : q.pid ≡ p.pid
  number = grind arith

  untraced_left : AllByRecursion (λ r. is_live r ≡ true → traces q.pid r ≡ false) left.processes
  untraced_left = All-edit (λ r. Some (if tracee p.pid r then untraced (lost_signals r) r else r)) (λ r. Unit {0}) (λ r. is_live r ≡ true → traces q.pid r ≡ false) (λ r u. grind (arith, nat_tests, number)) rows.processes (All-any _ (λ r. tt) rows.processes)

  pub end_sound : IsSound (end settings p.pid status rows)
  end_sound = choose settings.kill_on_debugger_exit rows left (λ r. IsSound (end_of settings p.pid status r)) (λ kills. end_of_killing settings rows p s at live status word kills) (λ spares.
      subst (λ n. IsSound (end_of settings n status left)) number (end_of_sparing settings left q
      (detached_sound (tracee p.pid) lost_signals rows s (λ r own is. and_left (is_live r) (traces p.pid r) is))
      (rw number (changed_row p.pid (tracee p.pid) (λ r. untraced (lost_signals r) r) rows.processes p (λ r. refl) at)) (grind (arith, live)) status word spares untraced_left))
