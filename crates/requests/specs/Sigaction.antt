-- Sigaction, as sigaction(2) says.
use Rattle.std.specs.Prelude.{◌&&◌, if◌then◌else◌}
use Rattle.requests.specs.CommonNames.{ℕ, Bool, not, EINVAL, is_signal, may_have, set_disposition, Disposition, ProcData, Rows, change_process, settle, Reply}
use Rattle.requests.specs.Outcome.{Outcome, answers, refuses}

-- whether the disposition is refused: the number is not a signal's, or KILL or STOP is to be ignored or caught
abbrev pub is_refused : ℕ → Disposition → Bool
is_refused s d = not (is_signal s && may_have s d)

abbrev pub sigaction : ProcData → ℕ → Disposition → Rows → Outcome
sigaction p s d rows =
    if is_refused s d
    then refuses EINVAL rows
    else answers Reply.Done
    (settle p.pid
    (change_process p.pid (λ q. record q { dispositions = set_disposition q.dispositions s d }) rows))
