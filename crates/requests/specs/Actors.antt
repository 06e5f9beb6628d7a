-- The LWP of a turn, its process, and its mode after a fork.
use Rattle.std.specs.Prelude.{◌≡◌}
use Rattle.requests.specs.CommonNames.{ℕ, Some, IsSomeAnd, LwpData, lwp_of, ProcData, process_of, IsRow, Rows, Call, Mode, User, VforkWait}

-- an LWP and its process, as the rows have them
pub record IsActing (p : ProcData) (l : LwpData) (rows : Rows) : Type 0 where
  pub process : process_of p.pid rows.processes ≡ Some p
  pub lwp : lwp_of l.tid rows.lwps ≡ Some l
  pub own : l.pid ≡ p.pid

-- a process that has an LWP with this number
pub record HasLwp (pid tid : ℕ) (rows : Rows) : Type 0 where
  pub process : IsRow rows pid
  pub lwp : IsSomeAnd (lwp_of tid rows.lwps) (λ l. l.pid ≡ pid)

-- the mode of an LWP after a fork: after a vfork it waits for the child
abbrev pub mode_after : Call → ℕ → Mode
mode_after Call.Vfork child = VforkWait child
mode_after call child = User
