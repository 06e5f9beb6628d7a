-- Rows of processes that are left, with their numbers and users: what posting a signal leaves.
use Rattle.requests.proofs.CommonNames.{nat_tests, ◌≡◌, ℕ, Bool, ◌==◌, if◌then◌else◌, List, filter_map, Option, Some, None, IfSome, refl, arith, rules, list_any, SIGKILL, SIGCHLD, ProcData}
use Rattle.requests.proofs.CommonNames.{process_of, Rows, each, change, is_numbered, Settings, posted_process, posted_lwp, continues, notifies, posted, process_after, lwp_after, notifies_of}
use Rattle.requests.proofs.CommonNames.{left_alone, end_each, end, post, sym, edit_none, filter_map_twice}
use Rattle.requests.proofs.SoundAfterCall.{choose}

abbrev pub SameNumber : ProcData → ProcData → Type 0
SameNumber p q = (q.pid ≡ p.pid) × (q.uid ≡ p.uid)

-- rows that are made from earlier ones, each from one, or gone
pub record Remain (ps qs : List ProcData) : Type 0 where
  pub to : ProcData → Option ProcData
  pub made : qs ≡ filter_map to ps
  pub same : (p : ProcData) → IfSome (to p) (SameNumber p)

pub remain_then : (ps qs rs : List ProcData) → Remain ps qs → Remain qs rs → Remain ps rs
remain_then ps qs rs a b = search (rules, filter_map_twice)

pub remain_all : (ps : List ProcData) → Remain ps ps
remain_all ps = record { to = λ p. Some p; made = sym (edit_none (λ p. Some p) (λ p. refl) ps); same = λ p. (refl, refl) }

-- each edit of chosen processes that keeps their numbers and users
remain_some : (chosen : ProcData → Bool) (f : ProcData → ProcData) → ((p : ProcData) → SameNumber p (f p)) → (ps : List ProcData) → Remain ps (filter_map (λ p. Some (if chosen p then f p else p)) ps)
remain_some chosen f keeps ps = search (rules, choose)

posted_keeps : (s : ℕ) (to : Option ℕ) (p : ProcData) → SameNumber p (posted_process s to p)
posted_keeps s to p = choose (continues s p) _ _ (SameNumber p) (refl, refl) (refl, refl)

remain_posted : (s : ℕ) (to : Option ℕ) (pid : ℕ) (rows : Rows) → Remain rows.processes (posted s to pid rows).processes
remain_posted s to pid rows =
    let first = change (is_numbered pid) (posted_process s to) (posted_lwp s to) rows in
    remain_then rows.processes first.processes (posted s to pid rows).processes
    (remain_some (is_numbered pid) (posted_process s to) (posted_keeps s to) rows.processes) (remain_some (λ p. list_any (λ n. n == p.pid) (notifies s (process_of pid rows.processes))) (posted_process SIGCHLD None) (posted_keeps SIGCHLD None) first.processes)

-- the end of a process
after_keeps : (ends : ProcData → Bool) (over : ℕ → Bool) (p status : ℕ) (q : ProcData) → IfSome (process_after ends over p status q) (SameNumber q)
after_keeps ends over p status q = search (rules, choose)

remain_end_each : (ends : ProcData → Bool) (over : ℕ → Bool) (p status : ℕ) (rows : Rows) → Remain rows.processes (end_each ends over p status rows).processes
remain_end_each ends over p status rows =
    let after = each (process_after ends over p status) (lwp_after ends over) rows in
    remain_then rows.processes after.processes (end_each ends over p status rows).processes
    (record { to = process_after ends over p status; made = refl; same = after_keeps ends over p status })
    (remain_some (λ p'. list_any (λ n. n == p'.pid) (filter_map (notifies_of ends over p status) rows.processes)) (posted_process SIGCHLD None) (posted_keeps SIGCHLD None) after.processes)

remain_left : (settings : Settings) (p : ℕ) (rows : Rows) → Remain rows.processes (left_alone settings p rows).processes
remain_left settings p rows = search (rules, choose, remain_all, remain_some)

pub remain_post : (settings : Settings) (s : ℕ) (to : Option ℕ) (pid : ℕ) (rows : Rows) → Remain rows.processes (post settings s to pid rows).processes
remain_post settings s to pid rows = choose (s == SIGKILL) (end settings pid SIGKILL rows) (posted s to pid rows) (λ r. Remain rows.processes r.processes) (grind (arith, nat_tests, remain_then, remain_left, remain_end_each)) (remain_posted s to pid rows)
