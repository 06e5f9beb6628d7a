-- What the rows of a host always satisfy, as a fact of each row.
use Rattle.std.specs.Prelude.{◌≡◌, ◌≢◌, ◌≤◌}
use Rattle.trace_rows.specs.CommonNames.{ℕ, true, false, Some, None, IfSome, is_some, length, get_or, bit_and, AllByRecursion, IsUser, slot, pid_block, tid_block, InBlock, unblockable_set, shows}
use Rattle.trace_rows.specs.CommonNames.{PL_FLAG_EXITED, LwpData, Differ, ProcData, State, Zombie, is_live, is_run, is_job, reporting, is_this, process_of, Rows, process_count, lwp_count_of}
use Rattle.trace_rows.specs.CommonNames.{lwp_count, Rise, InOwnBlock, InOwnersBlock}
use Rattle.trace_rows.specs.Post.{unwanted}
pub use Rattle.trace_rows.specs.End.{meets, waited_for}
use Rattle.trace_rows.specs.Sound.{is_live_of, is_live_child, is_end, names_own, is_due, mode_fits}
use Rattle.trace_rows.specs.Limits.{max_processes, max_lwps}

-- a live process of the user has the number
abbrev pub IsLiveOf : Rows → ℕ → ℕ → Type 0
IsLiveOf rows u n = is_live_of rows u n ≡ true

-- a live child of p has the number
abbrev pub IsLiveChild : Rows → ProcData → ℕ → Type 0
IsLiveChild rows p n = is_live_child rows p n ≡ true

-- a process names live processes of its user, another process as its parent, and an LWP of its own. It is in no ring
-- of tracers. A live process has an LWP
pub record Linked (rows : Rows) (p : ProcData) : Type 0 where
  pub tracer : IfSome p.tracer (IsLiveOf rows p.uid)
  pub parent : p.parent ≢ 1 → IsLiveOf rows p.uid p.parent
  pub other : p.parent ≢ p.pid
  pub chain : meets max_processes rows.processes p.pid p.pid ≡ false
  pub named : IfSome (reporting p) (λ tid. names_own rows p tid ≡ true)
  pub peopled : is_live p ≡ true → 1 ≤ lwp_count p.pid rows

-- a zombie has ended, asks for no events, has no pending signals, and has a tracer or a parent that collects it
pub record Ended (p : ProcData) (w : ℕ) : Type 0 where
  pub word : is_end w ≡ true
  pub mask : p.mask.0 ≡ 0
  pub pending : p.pending ≡ 0
  pub collector : p.tracer ≡ None → p.parent ≢ 1

abbrev pub IfEnded : ProcData → State → Type 0
IfEnded p (Zombie w) = Ended p w
IfEnded p other = Unit {0}

-- an untraced process has nothing that only a tracer gives, and no pending signal whose action is nothing
pub record Untraced (p : ProcData) : Type 0 where
  pub mask : p.mask.0 ≡ 0
  pub pending : bit_and p.pending (unwanted p) ≡ 0

-- the facts of a process on its own
pub record FitProcess (p : ProcData) : Type 0 where
  pub stopped : is_some (reporting p) ≡ true → is_some p.tracer ≡ true
  pub job : is_job p ≡ true → p.tracer ≡ None
  pub continued : p.continued ≡ true → (p.tracer ≡ None) × (is_run p ≡ true)
  pub untraced : p.tracer ≡ None → Untraced p
  pub ended : IfEnded p p.state

-- an LWP of a live process p; an LWP that has exited isn't the last one, and one that waits for a process waits for a
-- live child of p
pub record Standing (rows : Rows) (p : ProcData) (l : LwpData) : Type 0 where
  pub live : is_live p ≡ true
  pub exited : shows l.flags PL_FLAG_EXITED ≡ true → 2 ≤ lwp_count p.pid rows
  pub waits : IfSome (waited_for l.mode) (IsLiveChild rows p)

pub record UntracedLwp (p : ProcData) (l : LwpData) : Type 0 where
  pub due : is_due l.due ≡ false
  pub stepping : l.stepping ≡ false
  pub suspended : l.suspended ≡ false
  pub pending : bit_and l.pending (unwanted p) ≡ 0

-- an LWP that doesn't report its process's stop shows nothing
pub record Silent (l : LwpData) : Type 0 where
  pub flags : l.flags.0 ≡ 0
  pub child : l.child ≡ 0
  pub code : l.code ≡ 0

-- the facts of an LWP and its process
pub record FitLwp (p : ProcData) (l : LwpData) : Type 0 where
  pub untraced : p.tracer ≡ None → UntracedLwp p l
  pub silent : is_this l.tid (reporting p) ≡ false → Silent l
  pub blocked : bit_and l.blocked unblockable_set ≡ 0
  pub mode : mode_fits l.mode ≡ true

-- a fact of an LWP and its process
abbrev pub WithOwner : Rows → (ProcData → LwpData → Type 0) → LwpData → Type 0
WithOwner rows P l = (p : ProcData) → process_of l.pid rows.processes ≡ Some p → P p l

-- the numbers, limits and links of rows
pub record MidStepInvariant (rows : Rows) : Type 0 where
  pub rising : Rise rows.processes
  pub differ : Differ rows.lwps
  pub in_own_blocks : AllByRecursion InOwnBlock rows.processes
  pub in_owners_block : AllByRecursion (InOwnersBlock rows) rows.lwps
  pub pid_slots : length rows.pid_cursors ≡ 64
  pub tid_slots : length rows.tid_cursors ≡ 64
  pub pid_cursors : (u : ℕ) → IsUser u → InBlock (pid_block u) (get_or rows.pid_cursors (slot u) 0)
  pub tid_cursors : (u : ℕ) → IsUser u → InBlock (tid_block u) (get_or rows.tid_cursors (slot u) 0)
  pub few_processes : (u : ℕ) → IsUser u → process_count u rows ≤ max_processes
  pub few_lwps : (u : ℕ) → IsUser u → lwp_count_of u rows ≤ max_lwps
  pub linked : AllByRecursion (Linked rows) rows.processes
  pub standing : AllByRecursion (WithOwner rows (Standing rows)) rows.lwps

-- these facts, and those of each process and each LWP
pub record IsSound (rows : Rows) : Type 0 where
  pub stands : MidStepInvariant rows
  pub processes : AllByRecursion FitProcess rows.processes
  pub lwps : AllByRecursion (WithOwner rows FitLwp) rows.lwps
