-- Wait4 with WNOHANG, as wait(2) says.
use Rattle.std.specs.Prelude.{if◌then◌else◌}
use Rattle.requests.specs.CommonNames.{ℤ, not, ECHILD, EINVAL, ProcData, Options, Collected, collect, rows_after, Rows, Reply}
use Rattle.requests.specs.Kill.{is_which}
use Rattle.requests.specs.Outcome.{Outcome, answers, refuses}

abbrev pub collect_reply : Collected → Reply
collect_reply Collected.NoChild = Reply.Errno ECHILD
collect_reply Collected.Nothing = Reply.Nothing
collect_reply (Collected.Got pid status) = Reply.Status pid status

abbrev pub wait : ProcData → ℤ → Options → Rows → Outcome
wait p which options rows =
    if not (is_which which)
    then refuses EINVAL rows
    else answers (collect_reply (collect p.pid which options rows)) (rows_after p.pid which options rows)
