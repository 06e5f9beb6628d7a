-- A new process of a user.
use Rattle.requests.specs.CommonNames.{ℕ, Option, Some, None, EAGAIN, spawned, born, Due, Rows, add_process, add_lwp, Reply}
use Rattle.requests.specs.Outcome.{Outcome, answers, refuses}
use Rattle.requests.specs.Leave.{Numbers, room_for_process}

abbrev pub spawn_with : ℕ → Rows → Option Numbers → Outcome
spawn_with u rows None = refuses EAGAIN rows
spawn_with u rows (Some new) =
    answers (Reply.New new.pid new.tid)
    (add_lwp u (born new.tid new.pid 0 Due.Nothing) (add_process (spawned new.pid u) rows))

abbrev pub spawn : ℕ → Rows → Outcome
spawn u rows = spawn_with u rows (room_for_process u rows)
