-- An LWP and its process are there after changes that keep their numbers.
use Rattle.requests.proofs.CommonNames.{◌≡◌, ℕ, true, false, nat_eq, ◌&&◌, Bool, List, refl, sym, Option, Some, subst, rules, option_map, IsSomeAnd, arith, nat_tests, LwpData, Differ, lwp_of}
use Rattle.requests.proofs.CommonNames.{ProcData, process_of, is_live, is_run, Rows, change, change_process, change_lwp, is_numbered, map_lwps, is_process, add_process, add_lwp, TableInvariant, owns}
use Rattle.requests.proofs.CommonNames.{seen_lwp, same_number, process_of-pid, row_found, found_row, lwp_of-map, is_process-map, some_and, changed, changed_lwp, filter_map-map, changed-pid}
use Rattle.requests.proofs.CommonNames.{changed_lwp-keeps, own_lwp-keeps, is_live_at, find_some, own_lwps, find_passes, run_quiet, bit, without, IsSound, without_signal, choose, settled_process}
use Rattle.requests.proofs.CommonNames.{settled_lwp, settle, stop, StopInfo, IsActing, HasLwp}
use Rattle.proc_table.proofs.Rising.{Lacks-from_any}
use Rattle.proc_table.proofs.Placed.{is_process-placed}
use Rattle.requests.proofs.SoundAfterActing.{Acting}
use Rattle.requests.proofs.SoundAfterSignal.{taken_alike}
use Rattle.requests.proofs.SoundAfterLwpChange.{find_more}
use Rattle.requests.proofs.SoundAfterMask.{changed_process, changed_lwp as lwp_changed}

pub acting_has : (p : ProcData) (l : LwpData) (rows : Rows) → IsActing p l rows → HasLwp p.pid l.tid rows
acting_has p l rows a = record { process = found_row p.pid p rows.processes a.process; lwp = rw a.lwp a.own }

owner_kept : (pid : ℕ) (g : LwpData → LwpData) → ((k : LwpData) → (g k).pid ≡ k.pid) → (o : Option LwpData) → IsSomeAnd o (λ l. l.pid ≡ pid) → IsSomeAnd (option_map g o) (λ l. l.pid ≡ pid)
owner_kept pid g own o is = search (rules)

pub has-lwp_changed : (n : ℕ) (g : LwpData → LwpData) → ((k : LwpData) → (g k).tid ≡ k.tid) → ((k : LwpData) → (g k).pid ≡ k.pid)
    → (pid tid : ℕ) (rows : Rows) → HasLwp pid tid rows → HasLwp pid tid (change_lwp n g rows)
has-lwp_changed n g same own pid tid rows h = grind (arith, nat_tests, h, filter_map-map (λ l. Some (changed_lwp n g l)) (changed_lwp n g) (λ l. refl) rows.lwps, lwp_of-map (changed_lwp n g) (changed_lwp-keeps (λ l. l.tid) g same n) tid rows.lwps, owner_kept pid (changed_lwp n g) (changed_lwp-keeps (λ l. l.pid) g own n) (lwp_of tid rows.lwps) h.lwp)

pub has-process_changed : (n : ℕ) (f : ProcData → ProcData) → ((q : ProcData) → (f q).pid ≡ q.pid)
    → (pid tid : ℕ) (rows : Rows) → HasLwp pid tid rows → HasLwp pid tid (change_process n f rows)
has-process_changed n f same pid tid rows h = grind (arith, nat_tests, h, filter_map-map (λ q. Some (changed n f q)) (changed n f) (λ q. refl) rows.processes, is_process-map (changed n f) (changed-pid n f same) pid rows.processes)

-- a process that runs lives
pub runs_live : (p : ProcData) (rows : Rows) → process_of p.pid rows.processes ≡ Some p → is_run p ≡ true → is_live_at p.pid rows ≡ true
runs_live p rows at run = find_passes (λ q. nat_eq q.pid p.pid) (λ q. nat_eq q.pid p.pid && is_live q) rows.processes p at (rw (same_number p.pid, (run_quiet p.state run).1) refl)

-- a process found by a number is found by its own
pub row_itself : (n : ℕ) (p : ProcData) (ps : List ProcData) → process_of n ps ≡ Some p → process_of p.pid ps ≡ Some p
row_itself n p ps at = subst (λ m. process_of m ps ≡ Some p) (sym (process_of-pid n p ps at)) at

-- after an LWP has taken a signal, its process and it are there
pub taken_there : (s : ℕ) (p : ProcData) (l : LwpData) (rows : Rows) → IsActing p l rows → HasLwp p.pid l.tid (without_signal s p l rows)
taken_there s p l rows a = grind (arith, nat_tests, choose, has-lwp_changed l.tid (λ k. record k { pending = without k.pending (bit s) }) (λ k. refl) (λ k. refl) p.pid l.tid rows (acting_has p l rows a), has-process_changed p.pid (λ q. record q { pending = without q.pending (bit s) }) (λ q. refl) p.pid l.tid rows (acting_has p l rows a))

pub acting_from : (p : ProcData) (l : LwpData) (rows : Rows) → IsSound rows → IsActing p l rows → is_run p ≡ true → Acting rows p l
acting_from p l rows sound a run = record { sound = sound; home = a.process; there = a.lwp; own = a.own; run = run }

pub taken_live : (s : ℕ) (p : ProcData) (l : LwpData) (rows : Rows) → Acting rows p l → is_live_at p.pid (without_signal s p l rows) ≡ true
taken_live s p l rows a = grind (arith, nat_tests, runs_live (taken_alike rows p l a s).process (without_signal s p l rows) (taken_alike rows p l a s).acting.home (taken_alike rows p l a s).acting.run)

-- the LWP that a user sees by its number, and its process
pub acting_seen : (u tid : ℕ) (rows : Rows) (l : LwpData) (p : ProcData) → Differ rows.lwps → seen_lwp u tid rows ≡ Some l → process_of l.pid rows.processes ≡ Some p → IsActing p l rows
acting_seen u tid rows l p differ seen at = search (rules, row_itself, find_some, own_lwps, process_of-pid)

pub owns_itself : (p : ProcData) (ps : List ProcData) → process_of p.pid ps ≡ Some p → owns p.uid p.pid ps ≡ true
owns_itself p ps at = find_passes (λ q. nat_eq q.pid p.pid) (λ q. nat_eq q.pid p.pid && nat_eq q.uid p.uid) ps p at (rw (same_number p.pid, same_number p.uid) refl)

-- An LWP and its process are there after rows were added

pub has-lwp_added : (u : ℕ) (new : LwpData) (pid tid : ℕ) (rows : Rows) → HasLwp pid tid rows → HasLwp pid tid (add_lwp u new rows)
has-lwp_added u new pid tid rows h = search (rules, some_and, find_more)

pub has-process_added : (new : ProcData) (pid tid : ℕ) (rows : Rows) → TableInvariant rows → is_process rows new.pid ≡ false → HasLwp pid tid rows → HasLwp pid tid (add_process new rows)
has-process_added new pid tid rows kept free h = record { process = is_process-placed new pid rows.processes h.process kept.rising (Lacks-from_any new.pid rows.processes free); lwp = h.lwp }

-- and after changes of chosen rows
module _ (chosen : ProcData → Bool) (f : ProcData → ProcData) (g : ProcData → LwpData → LwpData) (numbered : (p : ProcData) → (f p).pid ≡ p.pid)
    (named : (p : ProcData) (l : LwpData) → (g p l).tid ≡ l.tid) (owned : (p : ProcData) (l : LwpData) → (g p l).pid ≡ l.pid) where
  pub has-change : (pid tid : ℕ) (rows : Rows) → HasLwp pid tid rows → HasLwp pid tid (change chosen f g rows)
  has-change pid tid rows h = grind (arith, nat_tests, found_row, changed_process pid chosen f g rows (row_found pid rows.processes h.process).0 numbered (row_found pid rows.processes h.process).1, lwp_changed tid chosen f g rows (some_and (λ k. k.pid ≡ pid) (lwp_of tid rows.lwps) h.lwp).0 (row_found pid rows.processes h.process).0 named (some_and (λ k. k.pid ≡ pid) (lwp_of tid rows.lwps) h.lwp).1)

pub has-stop : (at of : ℕ) (shown : StopInfo) (pid tid : ℕ) (rows : Rows) → HasLwp pid tid rows → HasLwp pid tid (stop at of shown rows)
has-stop at of shown pid tid rows h = search (rules, has-lwp_changed, has-process_changed, has-change)

pub has-settled : (n pid tid : ℕ) (rows : Rows) → HasLwp pid tid rows → HasLwp pid tid (settle n rows)
has-settled n pid tid rows h = has-change (is_numbered n) settled_process settled_lwp (λ p. refl) (λ p l. refl) (λ p l. refl) pid tid rows h

-- and after changes of one process's LWPs
pub has-lwps_mapped : (n : ℕ) (g : LwpData → LwpData) → ((k : LwpData) → (g k).tid ≡ k.tid) → ((k : LwpData) → (g k).pid ≡ k.pid)
    → (pid tid : ℕ) (rows : Rows) → HasLwp pid tid rows → HasLwp pid tid (map_lwps n g rows)
has-lwps_mapped n g same own pid tid rows h = search (rules, lwp_of-map, own_lwp-keeps, owner_kept)
