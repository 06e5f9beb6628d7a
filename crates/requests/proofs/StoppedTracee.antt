-- A stopped tracee in sound rows, and changes of its row and of its LWPs.
use Rattle.requests.proofs.CommonNames.{some_is, Gives, Attempts, inl, Bool, ◌≡◌, ℕ, ◌≤◌, ◌==◌, arith, eqb-true, true, if◌then◌else◌, Some, is_some, refl, sym, ap, ◌∙◌, subst, eq-eqb, rules}
use Rattle.requests.proofs.CommonNames.{IsSomeAnd, nat_tests, EventMask, LwpData, lwp_of, Differ, ProcData, process_of, reporting, Rows, change_process, change_lwp, is_numbered}
use Rattle.requests.proofs.CommonNames.{lwp_count, lwp_count_of, owns, Rise, IsRow, InOwnBlock, set_lwp, owns-kept, found_row, lwp_of-tid, every_found, some_and, change_process-at, change_lwp-at}
use Rattle.requests.proofs.CommonNames.{lwp_there, IsSound, count_edit, changed_row, edit_none, Reply, Outcome, answers, set_mask}
use Rattle.requests.proofs.CommonNames.{with_signal}
use Rattle.trace_rows.specs.Reports.{IsStopped}
use Rattle.trace_rows.proofs.StoppedByOwnLwp.{IsStopped-from}
use Rattle.requests.proofs.SoundAfterMask.{Tracee, OwnLwp}

-- A process with a number is found with its change

pub row_changed : (n : ℕ) (f : ProcData → ProcData) (rows : Rows) (p : ProcData) → ((q : ProcData) → (f q).pid ≡ q.pid) → process_of n rows.processes ≡ Some p → IsRow (change_process n f rows) n
row_changed n f rows p same at = found_row n (if p.pid == n then f p else p) (change_process n f rows).processes (changed_row n (is_numbered n) f rows.processes p same at)

-- An LWP found by its own number, and its edit

pub lwp_may_change : (n : ℕ) (k : LwpData) (rows : Rows) → lwp_of n rows.lwps ≡ Some k → IsSomeAnd (lwp_of k.tid rows.lwps) (λ was. was.pid ≡ k.pid)
lwp_may_change n k rows at = lwp_there rows k k (ap (λ m. lwp_of m rows.lwps) (lwp_of-tid n k rows.lwps at) ∙ at) refl

pub lwp_changed : (n : ℕ) (f : LwpData → LwpData) (k : LwpData) (rows rows1 : Rows) → ((l : LwpData) → (f l).tid ≡ l.tid) → Differ rows.lwps → lwp_of n rows.lwps ≡ Some k → rows1 ≡ set_lwp (f k) rows → rows1 ≡ change_lwp n f rows
lwp_changed n f k rows rows1 same d at put = put ∙ sym (change_lwp-at n f rows k d at (same k ∙ lwp_of-tid n k rows.lwps at))

-- A stopped tracee

module _ (rows : Rows) (p : ProcData) (s : IsSound rows) (at : process_of p.pid rows.processes ≡ Some p) (reports : is_some (reporting p) ≡ true) where
  pub is_tracee : Tracee rows p
  is_tracee = grind (arith, nat_tests, every_found)

  pub is_stopped : IsStopped p.pid rows
  is_stopped = grind (arith, nat_tests, some_is, IsStopped-from, s.stands, at, reports)

pub own_lwp : (rows : Rows) (p : ProcData) (tid : ℕ) → IsSomeAnd (lwp_of tid rows.lwps) (λ l. l.pid ≡ p.pid) → OwnLwp rows p tid
own_lwp rows p tid own = let l = some_and (λ (k : LwpData). k.pid ≡ p.pid) (lwp_of tid rows.lwps) own in record { lwp = l.0; there = l.1; own = l.2 }

-- Masks

pub set_mask_as : (mask : EventMask → EventMask) (rows : Rows) (p : ProcData) → Rise rows.processes → process_of p.pid rows.processes ≡ Some p → set_mask (λ old. mask p.mask) p.pid rows ≡ set_mask mask p.pid rows
set_mask_as mask rows p up at = grind (arith, nat_tests, change_process-at p.pid (λ q. record q { mask = mask p.mask }) rows p up at refl, change_process-at p.pid (λ q. record q { mask = mask q.mask }) rows p up at refl)

-- Arguments that are a signal's number or 0

pub signalled : (f : ℕ → Rows → Rows) (arg pass : ℕ) (r : Reply) (rows rows1 rows2 to : Rows) → (arg ≤ 31) × (pass ≡ arg) → rows1 ≡ to → rows2 ≡ f pass rows1 → rows2 ≡ (with_signal arg (answers r (f arg to)) rows).rows
signalled f arg pass r rows rows1 rows2 to few same done = search (rules, nat_tests)

pub gives_as : {o o' : Outcome} {rows : Rows} {r : Reply} → o ≡ o' → Gives o rows r → Gives o' rows r
gives_as {rows = rows} {r = r} same g = subst (λ x. Gives x rows r) same g

pub given : {takes : Bool} {o : Outcome} {before rows : Rows} {r : Reply} → Gives o rows r → Attempts takes o before rows r
given g = inl g

-- A process has no more LWPs than its user

pub few_own : (rows : Rows) (p : ProcData) → IsSound rows → process_of p.pid rows.processes ≡ Some p → lwp_count p.pid rows ≤ 1000
few_own rows p s at =
    let home = every_found InOwnBlock (λ q. q.pid == p.pid) rows.processes p s.stands.in_own_blocks at in
    let few = s.stands.few_lwps p.uid home.user in
    let owns_it : owns p.uid p.pid rows.processes ≡ true = owns-kept p.uid p.pid rows.processes s.stands.rising ∙ rw (at, eq-eqb p.uid p.uid refl) refl in
    let less = count_edit (λ l. l.pid == p.pid) (λ l. owns p.uid l.pid rows.processes) (λ l. Some l) (λ l is. ap (λ n. owns p.uid n rows.processes) (eqb-true l.pid p.pid is) ∙ owns_it) rows.lwps in
    let same = edit_none (λ (l : LwpData). Some l) (λ l. refl) rows.lwps in
    let all : lwp_count p.pid rows ≤ lwp_count_of p.uid rows = rw same at less in
    omega (arith, few, all)
