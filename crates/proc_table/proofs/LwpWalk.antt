-- The first LWP of a process, and a row that no LWP's number has.
use Rattle.proc_table.proofs.CommonNames.{◌≡◌, ℕ, List, [], ◌∷◌, arith, Option, Some, IfSome, nat_tests, LwpData, LacksLwp, Differ, first_lwp, lwp_of, with_lwp, map-lacks}
use Rattle.proc_table.proofs.Every.{every_found}
use Rattle.proc_table.proofs.Rows.{same_number, other_number}

-- the row is one of the process's
pub record IsLwp (pid : ℕ) (ls : List LwpData) (k : LwpData) : Type 0 where
  pub at : lwp_of k.tid ls ≡ Some k
  pub own : k.pid ≡ pid

IsLwp-more : (pid : ℕ) (l : LwpData) (ls : List LwpData) (o : Option LwpData) → LacksLwp l.tid ls → IfSome o (IsLwp pid ls) → IfSome o (IsLwp pid (l ∷ ls))
IsLwp-more pid l ls o lacks h = grind (arith, nat_tests, other_number, every_found)

pub first-found : (pid : ℕ) (ls : List LwpData) → Differ ls → IfSome (first_lwp pid ls) (IsLwp pid ls)
first-found pid [] d = grind (arith, nat_tests)
first-found pid (l ∷ ls) d = grind (arith, nat_tests, first-found pid ls d.1, same_number, IsLwp-more)

pub unput : (new : LwpData) (ls : List LwpData) → LacksLwp new.tid ls → with_lwp new ls ≡ ls
unput new ls lacks = map-lacks (λ (l : LwpData). l.tid) (λ l. new) new.tid ls lacks
