-- Steps of a caller: what they are once it was looked up, and that each kind keeps a host sound.
use Rattle.requests.proofs.CommonNames.{◌≡◌, ℕ, true, Some, refl, ap, ◌∙◌, eqb-true, rules, ProcData, is_live, is_run, visible_process, PlainStep, Machine, step, step_of, checked, calls, caller_of, Rows}
use Rattle.requests.proofs.CommonNames.{Rise, and_right, find_some, own_rows, IsCaller, IsCallerByNumber, List, [], ◌∷◌, false, ◌==◌, ◌&&◌, None, eq-eqb, list_any, arith, nat_tests, process_of, process_of-pid}
use Rattle.requests.proofs.CommonNames.{any_holds, the_row, find_passes, IsLiveOf, ℤ, Bool, not, if◌then◌else◌, Option, subst, ESRCH, EINVAL, set_disposition, Disposition, IsSound, All-filter}
use Rattle.requests.proofs.CommonNames.{disposed_sound, Options, reportable, candidates, is_child, fits, reported, rows_after, Reply, answers, refuses, sigaction, wait, is_which, after, sound}
use Rattle.requests.proofs.CommonNames.{collect_sound, is_refused, run_quiet}
use Rattle.requests.proofs.SoundWithoutEnded.{rows_sound, after_sound}

-- A caller's step
pub called : (u n : ℕ) (s : PlainStep) (m : Machine) → caller_of s ≡ Some n → (p : ProcData) → visible_process u n m.rows ≡ Some p → is_live p ≡ true → is_run p ≡ true → step u s m ≡ calls u s p m
called u n s m by p seen live run = ap (step_of u s m) by ∙ (ap (λ o. checked u s o m) seen ∙ rw (live, run) refl)

-- A caller that was found
pub is_caller : (u n : ℕ) (rows : Rows) (p : ProcData) → Rise rows.processes → IsCallerByNumber u n rows p → IsCaller u p rows
is_caller u n rows p rise c = search (rules, find_some, own_rows, eqb-true, and_right)

-- ---- Whether the row with a number is live.

pub live_found : (n : ℕ) (ps : List ProcData) (p : ProcData) → Rise ps → process_of n ps ≡ Some p → list_any (λ q. (q.pid == n) && is_live q) ps ≡ is_live p
live_found n ps p rise at = grind (arith, nat_tests, find_passes (λ q. q.pid == n) (λ q. (q.pid == n) && is_live q) ps p at, process_of-pid n p ps at, any_holds (λ q. (q.pid == n) && is_live q) (λ q. q.pid ≡ n → q ≡ p) (is_live p ≡ true) (λ q same is. grind (arith, nat_tests, same, is)) ps (the_row n ps p rise at))

pub live_none : (n : ℕ) (ps : List ProcData) → process_of n ps ≡ None → list_any (λ q. (q.pid == n) && is_live q) ps ≡ false
live_none n [] none = refl
live_none n (q ∷ ps) none = grind (arith, nat_tests, live_none n ps, none)

-- a live process is one of its user's
pub live_row : (rows : Rows) (p : ProcData) → process_of p.pid rows.processes ≡ Some p → is_live p ≡ true → IsLiveOf rows p.uid p.pid
live_row rows p at live = find_passes (λ q. q.pid == p.pid) (λ q. (q.pid == p.pid) && (q.uid == p.uid) && is_live q) rows.processes p at (rw (eq-eqb p.pid p.pid refl, eq-eqb p.uid p.uid refl, live) refl)

-- ---- Steps of a caller keep a host sound, kind by kind.

-- a caller lives
pub caller_live : (u : ℕ) (rows : Rows) (p : ProcData) → IsCaller u p rows → is_live p ≡ true
caller_live u rows p c = ap (λ b. not b) (run_quiet p.state c.runs).1

pub live_caller : (u : ℕ) (rows : Rows) (p : ProcData) → IsCaller u p rows → IsLiveOf rows u p.pid
live_caller u rows p c = subst (λ w. IsLiveOf rows w p.pid) c.own (live_row rows p c.at (caller_live u rows p c))

pub checked_sound : (u : ℕ) (s : PlainStep) (m : Machine) (n : ℕ) → sound m ≡ true → ((p : ProcData) → IsCaller u p m.rows → sound (calls u s p m).machine ≡ true) → sound (checked u s (visible_process u n m.rows) m).machine ≡ true
checked_sound u s m n is done = by_caller (visible_process u n m.rows) refl
  where
    stays : (r : Reply) → sound (after m (answers r m.rows)).machine ≡ true
    stays r = after_sound m (answers r m.rows) is (rows_sound m is)

    at_run : (p : ProcData) → visible_process u n m.rows ≡ Some p → (live : Bool) → is_live p ≡ live → (run : Bool) → is_run p ≡ run → sound (checked u s (Some p) m).machine ≡ true
    at_run p seen false e run r = rw e (stays (Reply.Errno ESRCH))
    at_run p seen true e false r = rw (e, r) (stays Reply.Held)
    at_run p seen true e true r = rw (e, r) (done p (is_caller u n m.rows p (rows_sound m is).stands.rising (record { seen = seen; live = e; runs = r })))

    by_caller : (o : Option ProcData) → visible_process u n m.rows ≡ o → sound (checked u s o m).machine ≡ true
    by_caller None e = stays (Reply.Errno ESRCH)
    by_caller (Some p) e = at_run p e (is_live p) refl (is_run p) refl

pub choose : {X : Type 0} (b : Bool) (x y : X) (R : X → Type 0) → R x → R y → R (if b then x else y)
choose b x y R h k = grind (arith, nat_tests)

pub sigaction_rows : (u : ℕ) (rows : Rows) (p : ProcData) (sig : ℕ) (d : Disposition) → IsSound rows → IsCaller u p rows → IsSound (sigaction p sig d rows).rows
sigaction_rows u rows p sig d s c = choose (is_refused sig d) (refuses EINVAL rows) _ (λ o. IsSound o.rows) s (disposed_sound rows p.pid p (λ q. set_disposition q.dispositions sig d) s c.at (caller_live u rows p c))

-- a child that reports is found by its number
pub reported_row : (rows : Rows) (caller : ℕ) (which : ℤ) (options : Options) (p : ProcData) → Rise rows.processes → reported caller which options rows ≡ Some p → process_of p.pid rows.processes ≡ Some p
reported_row rows caller which options p rise found = grind (arith, nat_tests, find_some (reportable options caller) (λ r. process_of r.pid rows.processes ≡ Some r) (candidates caller which rows) (All-filter (λ r. is_child caller r && fits which r) (λ r. process_of r.pid rows.processes ≡ Some r) rows.processes (own_rows rows.processes rise)) p found)

pub rows_after_sound : (rows : Rows) (caller : ℕ) (which : ℤ) (options : Options) → IsSound rows → IsSound (rows_after caller which options rows)
rows_after_sound rows caller which options s = grind (arith, nat_tests, collect_sound, reported_row)

pub wait_rows : (p : ProcData) (which : ℤ) (options : Options) (rows : Rows) → IsSound rows → IsSound (wait p which options rows).rows
wait_rows p which options rows s = choose (not (is_which which)) (refuses EINVAL rows) _ (λ o. IsSound o.rows) s (rows_after_sound rows p.pid which options s)
