-- A number has one row.
use Rattle.trace_rows.proofs.CommonNames.{find, arith, ◌≡◌, ℕ, Bool, true, ◌==◌, ◌&&◌, List, Some, nat_tests, AllByRecursion, list_any, LwpData, lwp_of, Differ, ProcData, process_of, Rise, Once, once}
use Rattle.trace_rows.proofs.Every.{All-imply}
use Rattle.trace_rows.proofs.Found.{any_by_number}
use Rattle.trace_rows.proofs.Passes.{own_found, own_rows}

-- what a number finds is the only one with it
pub the_one : {X : Type 0} (number : X → ℕ) (n : ℕ) (xs : List X) (x : X) → Once number xs → find (λ y. number y == n) xs ≡ Some x → AllByRecursion (λ y. number y ≡ n → y ≡ x) xs
the_one number n xs x differ at = All-imply _ _ (λ y own same. cc (rw same at own)) xs (own_found number xs differ)

pub the_row : (n : ℕ) (ps : List ProcData) (p : ProcData) → Rise ps → process_of n ps ≡ Some p → AllByRecursion (λ q. q.pid ≡ n → q ≡ p) ps
the_row n ps p rise at = the_one (λ q. q.pid) n ps p (once ps rise) at

pub the_lwp : (n : ℕ) (ls : List LwpData) (k : LwpData) → Differ ls → lwp_of n ls ≡ Some k → AllByRecursion (λ l. l.tid ≡ n → l ≡ k) ls
the_lwp n ls k differ at = the_one (λ l. l.tid) n ls k differ at

pub own_lwps : (ls : List LwpData) → Differ ls → AllByRecursion (λ l. lwp_of l.tid ls ≡ Some l) ls
own_lwps ls differ = own_found (λ l. l.tid) ls differ

-- a test that a row of the number passes is passed by each
pub one_row : (t : ProcData → Bool) (ps : List ProcData) → Rise ps → AllByRecursion (λ p. list_any (λ q. (q.pid == p.pid) && t q) ps ≡ true → t p ≡ true) ps
one_row t ps rise = All-imply _ _ (λ p own is. grind (arith, nat_tests, own, is, any_by_number t p.pid ps rise)) ps (own_rows ps rise)
