-- What is decided about a trace stop and what a handle asks, and that it keeps a host sound.
use Rattle.requests.proofs.CommonNames.{◌≡◌, ℕ, negsuc, ◌==◌, if◌then◌else◌, List, Option, Some, None, IfSome, refl, sym, ap, ap₂, subst, eq-eqb, arith, nat_tests, LwpData, ProcData}
use Rattle.requests.proofs.CommonNames.{State, process_of, Rows, each, Settings, detach, IsSound, find_edit, Rule, Decision, StatusKind, Collected, collect, reported, rows_after, told}
use Rattle.requests.proofs.CommonNames.{Outcome, done, no_options, handles_status, handles, handled_by, resumes, signal_alone, Stepping, no_events, choose, by_kept, process_edited, rise_edited, Bool}
use Rattle.requests.proofs.CommonNames.{true, is_some, SIGKILL, lwp_of, Trace, named_by, resume, FitProcess, detach_sound, view_of, decided, handles_stop, every_found}
use Rattle.requests.proofs.SoundAfterTurn.{heard}
use Rattle.requests.proofs.SoundAfterCall.{reported_row, rows_after_sound}
use Rattle.requests.proofs.SoundAfterMask.{Tracee, resumes_sound, continues_sound}
use Rattle.wait4.specs.Collect as wait

-- The handling of a stop depends only on the process's number
done_pid : (settings : Settings) (d : Decision) (p q : ProcData) (rows : Rows) → q.pid ≡ p.pid → done settings d q rows ≡ done settings d p rows
done_pid settings Decision.Kill p q rows same = ap (λ n. done settings Decision.Kill (record p { pid = n }) rows) same
done_pid settings d p q rows same = ap (λ n. done settings d (record p { pid = n }) rows) same

-- what a decision does to a tracee
decision_sound : (settings : Settings) (d : Decision) (p q : ProcData) (rows : Rows) → Tracee rows q → q.pid ≡ p.pid → IsSound (done settings d p rows)
decision_sound settings (Decision.Continue s) p q rows t same = subst (λ n. IsSound (resumes settings no_events Stepping.Nobody s (record p { pid = n }) rows).rows) same (continues_sound rows q t settings no_events Stepping.Nobody s)
decision_sound settings (Decision.Detach s) p q rows t same = subst (λ n. IsSound (detach settings n s rows)) same (detach_sound settings rows q.pid q t.sound t.home t.live t.traced s)
decision_sound settings Decision.Kill p q rows t same = subst (λ n. IsSound (resume settings (signal_alone SIGKILL) n rows)) same (resumes_sound rows q t settings (signal_alone SIGKILL))
decision_sound settings d p q rows t same = t.sound

module _ (settings : Settings) (caller : ℕ) (policies : List (List Rule)) (rows : Rows) (s : IsSound rows) where
  abbrev after : Rows
  after = rows_after caller (negsuc 0) no_options rows

  module _ (p : ProcData) (found : reported caller (negsuc 0) no_options rows ≡ Some p) where
    abbrev to : ProcData → Option ProcData
    to q = if q.pid == p.pid then wait.collected caller q else Some q

    same_pid : (q : ProcData) → IfSome (to q) (λ r. (r.pid == p.pid) ≡ (q.pid == p.pid))
    same_pid q = by_kept caller p q (λ o. IfSome o (λ r. (r.pid == p.pid) ≡ (q.pid == p.pid))) (λ no. tt) (λ r k. ap (λ n. n == p.pid) k.pid)

    -- the row of what was collected, if it is left
    pub row_left : (z : ProcData) → wait.collected caller p ≡ Some z → (m : ℕ) × (process_of p.pid after.processes ≡ Some (record z { pending = m }))
    row_left z is = subst (λ (r : Rows). (m : ℕ) × (process_of p.pid r.processes ≡ Some (record z { pending = m }))) (ap (λ o. wait.without_report caller o rows) (sym found))
        (heard (each to (λ q l. Some l) rows) (told caller p) p.pid z (find_edit (λ q. q.pid == p.pid) to same_pid rows.processes p z (reported_row rows caller (negsuc 0) no_options p s.stands.rising found) (rw (eq-eqb p.pid p.pid refl) is)))

    -- it is gone if it is not left
    row_gone : wait.collected caller p ≡ None → process_of p.pid after.processes ≡ None
    row_gone gone = grind (arith, nat_tests, reported_row, process_edited, eq-eqb, choose, rise_edited, wait.without_report, by_kept)

    -- a handle of the row after the collection
    abbrev handled_after : StatusKind → Outcome
    handled_after status = handles settings policies rows after (process_of p.pid after.processes) (Collected.Got p.pid status)

    by_state : (status : StatusKind) (x : State) → p.state ≡ x → handles_status settings policies status p after x ≡ handled_after status
    by_state status x is = grind (arith, nat_tests, wait.collected_in, row_gone, row_left, done_pid)

  -- a handle asks about the row of what it collected, as it is after the collection
  pub asked : (pid : ℕ) (status : StatusKind) → collect caller (negsuc 0) no_options rows ≡ Collected.Got pid status
      → handled_by settings policies caller rows ≡ handles settings policies rows after (process_of pid after.processes) (Collected.Got pid status)
  asked pid status is = grind (arith, nat_tests, ap₂, by_state)

  pub asked_at : (rows1 : Rows) → rows1 ≡ after → (pid : ℕ) (status : StatusKind) → collect caller (negsuc 0) no_options rows ≡ Collected.Got pid status → (o : Option ProcData) → o ≡ process_of pid rows1.processes
      → handles settings policies rows rows1 o (Collected.Got pid status) ≡ handled_by settings policies caller rows
  asked_at rows1 left pid status is o at = grind (arith, nat_tests, asked)

  -- a stop that installed policies decide on keeps rows sound
  after_is_sound : IsSound after
  after_is_sound = rows_after_sound rows caller (negsuc 0) no_options s

  module _ (p : ProcData) (found : reported caller (negsuc 0) no_options rows ≡ Some p) (tid sig : ℕ) (was : Bool) (stops : p.state ≡ Trace tid sig was) where
    abbrev now_seen : ProcData
    now_seen = record p { state = Trace tid sig true }

    left : (m : ℕ) × (process_of p.pid after.processes ≡ Some (record now_seen { pending = m }))
    left = row_left p found now_seen (ap (wait.collected_in caller p) stops)

    traced : is_some p.tracer ≡ true
    traced = (every_found FitProcess (λ r. r.pid == p.pid) rows.processes p s.processes (reported_row rows caller (negsuc 0) no_options p s.stands.rising found)).stopped (ap (λ x. is_some (named_by x)) stops)

    stop_sound : (status : StatusKind) (o : Option LwpData) → IsSound (handles_stop settings policies p tid sig status after o).rows
    stop_sound status None = after_is_sound
    stop_sound status (Some l) = decision_sound settings (decided policies 0 (view_of p tid sig l)).decision p (record now_seen { pending = left.0 }) after (record { sound = after_is_sound; home = left.1; live = refl; traced = traced }) refl

  status_sound : (status : StatusKind) (p : ProcData) → reported caller (negsuc 0) no_options rows ≡ Some p → (x : State) → p.state ≡ x → IsSound (handles_status settings policies status p after x).rows
  status_sound status p found (Trace tid sig told) is = stop_sound p found tid sig told is status (lwp_of tid after.lwps)
  status_sound status p found x is = after_is_sound

  pub handles_sound : (o : Option ProcData) → reported caller (negsuc 0) no_options rows ≡ o → (c : Collected) → IsSound (handles settings policies rows after o c).rows
  handles_sound o found c = grind (arith, nat_tests, after_is_sound, status_sound)
