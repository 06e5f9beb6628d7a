-- The LWP of a process with a number, found among all rows.
use Rattle.std.proofs.Common.{◌≡◌, ℕ, true, false, List, [], ◌∷◌, Some, None, nat_eq, refl, arith}
use Rattle.std.proofs.lemmas.Bool.Decides.{nat_tests}
use Rattle.lwp_table.specs.declared.LwpData.{LwpData}
use Rattle.lwp_table.specs.Lwps.{lwp_of, lwps_of, Differ, Lacks}
use Rattle.proc_table.proofs.Rows.{process_of-pid}

-- an unused number is none of the process's
pub none-owned : (pid tid : ℕ) (lwps : List LwpData) → lwp_of tid lwps ≡ None → lwp_of tid (lwps_of pid lwps) ≡ None
none-owned pid tid [] none = refl
none-owned pid tid (k ∷ ks) none = grind (arith, nat_tests, none, none-owned pid tid ks)

-- the process's own LWP is found
pub own-owned : (pid tid : ℕ) (lwps : List LwpData) (l : LwpData) → lwp_of tid lwps ≡ Some l → nat_eq l.pid pid ≡ true → lwp_of tid (lwps_of pid lwps) ≡ Some l
own-owned pid tid [] l e own = e
own-owned pid tid (k ∷ ks) l e own = grind (arith, nat_tests, e, own, own-owned pid tid ks l)

lacks-owned : (pid tid : ℕ) (lwps : List LwpData) → Lacks (λ k. k.tid) tid lwps → lwp_of tid (lwps_of pid lwps) ≡ None
lacks-owned pid tid [] lacks = refl
lacks-owned pid tid (k ∷ ks) lacks = grind (arith, nat_tests, lacks.0, lacks-owned pid tid ks lacks.1)

-- another process's isn't
pub foreign-owned : (pid tid : ℕ) (lwps : List LwpData) (l : LwpData) → Differ lwps → lwp_of tid lwps ≡ Some l → nat_eq l.pid pid ≡ false → lwp_of tid (lwps_of pid lwps) ≡ None
foreign-owned pid tid [] l differ e foreign = refl
foreign-owned pid tid (k ∷ ks) l differ e foreign = grind (arith, nat_tests, e, foreign, foreign-owned pid tid ks l differ.1, lacks-owned pid k.tid ks differ.0)

pub ruleset of_process = (none-owned, own-owned, foreign-owned)

-- the process that a number finds has that number
pub ruleset of_info = process_of-pid
