-- The numbers that a user's limits leave room for.
use Rattle.requests.proofs.CommonNames.{nat_tests, ◌≡◌, ℕ, zero, suc, ◌+◌, ◌-◌, ◌<◌, ◌≤◌, Bool, false, IfSome, arith, slot, pid_block, tid_block, first_free, next_free, Rows, is_process, is_lwp}
use Rattle.requests.proofs.CommonNames.{process_count, lwp_count_of, Numbers, room_for_lwp, room_for_process, get_or, InBlock}
use Rattle.pid_blocks.specs.declared.Block.{Block}

-- a free number between two
record Free (taken : ℕ → Bool) (low high n : ℕ) : Type 0 where
  pub from : low ≤ n
  pub to : n < high
  pub free : taken n ≡ false

first_free_is : (taken : ℕ → Bool) (count n : ℕ) → IfSome (first_free taken count n) (Free taken n (n + count))
first_free_is taken zero n = tt
first_free_is taken (suc count) n = grind (arith, nat_tests, first_free_is taken count (n + 1))

next_free_is : (b : Block) (cursor : ℕ) (taken : ℕ → Bool) → InBlock b cursor → IfSome (next_free b cursor taken) (Free taken b.first (b.first + b.size))
next_free_is b cursor taken i = grind (arith, nat_tests, first_free_is taken (b.first + b.size - cursor) cursor, first_free_is taken (cursor - b.first) b.first, i)

-- a number for an LWP of the user
pub record LwpRoom (u : ℕ) (rows : Rows) (n : ℕ) : Type 0 where
  pub tid : InBlock (tid_block u) n
  pub new : is_lwp rows n ≡ false
  pub few : lwp_count_of u rows < 1000

pub record ProcessRoom (u : ℕ) (rows : Rows) (new : Numbers) : Type 0 where
  pub pid : InBlock (pid_block u) new.pid
  pub free : is_process rows new.pid ≡ false
  pub few : process_count u rows < 250
  pub lwp : LwpRoom u rows new.tid

pub lwp_room : (u : ℕ) (rows : Rows) → InBlock (tid_block u) (get_or rows.tid_cursors (slot u) 0) → IfSome (room_for_lwp u rows) (LwpRoom u rows)
lwp_room u rows cursor = grind (arith, nat_tests, next_free_is (tid_block u) (get_or rows.tid_cursors (slot u) 0) (is_lwp rows) cursor)

pub process_room : (u : ℕ) (rows : Rows) → InBlock (pid_block u) (get_or rows.pid_cursors (slot u) 0) → InBlock (tid_block u) (get_or rows.tid_cursors (slot u) 0) → IfSome (room_for_process u rows) (ProcessRoom u rows)
process_room u rows cursor name = grind (arith, nat_tests, next_free_is (pid_block u) (get_or rows.pid_cursors (slot u) 0) (is_process rows) cursor, lwp_room u rows name)
