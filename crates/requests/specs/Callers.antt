-- The caller of a step.
use Rattle.std.specs.Prelude.{◌≡◌, ◌≢◌}
use Rattle.requests.specs.CommonNames.{ℕ, true, Some, Errno, ProcData, process_of, is_live, is_run, Rows, visible_process, PlainStep, Reply}
use Rattle.requests.specs.Outcome.{answers}
use Rattle.requests.specs.Step.{Machine, after, step}
use Rattle.step_types.specs.Plain.{caller_of}
use Rattle.requests.specs.declared.host.Bar.{Bar}

-- a process of the user that runs
pub record IsCaller (user : ℕ) (p : ProcData) (rows : Rows) : Type 0 where
  pub at : process_of p.pid rows.processes ≡ Some p
  pub own : p.uid ≡ user
  pub runs : is_run p ≡ true

-- the process that a user's number names, if it may make steps
pub record IsCallerByNumber (user n : ℕ) (rows : Rows) (p : ProcData) : Type 0 where
  pub seen : visible_process user n rows ≡ Some p
  pub live : is_live p ≡ true
  pub runs : is_run p ≡ true

-- every step with that number as its caller gets this reply and changes nothing
pub record Barred (user n : ℕ) (m : Machine) (r : Reply) : Type 0 where
  pub answer : (s : PlainStep) → caller_of s ≡ Some n → step user s m ≡ after m (answers r m.rows)
  pub other : r ≢ Reply.Errno Errno.ENOMEM

-- the reply to each step of a number that may make none
abbrev pub bar_reply : Bar → Reply
bar_reply Bar.Missing = Reply.Errno Errno.ESRCH
bar_reply Bar.Held = Reply.Held
