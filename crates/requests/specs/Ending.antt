-- The steps that may end a process, by their replies.
use Rattle.std.specs.Prelude.{◌==◌}
use Rattle.requests.specs.CommonNames.{ℕ, Bool, true, false, not, SIGKILL, PlainStep, Step, Reply, Request}

-- whether a request passes a signal to its tracee, which may end it
abbrev pub passes_signal : Request → ℕ → Bool
passes_signal Request.Kill arg = true
passes_signal Request.Continue arg = not (arg == 0)
passes_signal Request.Step arg = not (arg == 0)
passes_signal Request.Detach arg = not (arg == 0)
passes_signal Request.ToSce arg = not (arg == 0)
passes_signal Request.ToScx arg = not (arg == 0)
passes_signal Request.Syscall arg = not (arg == 0)
passes_signal r arg = false

-- whether a step with this reply may have ended a process: a kill by SIGKILL, a stop that a handler decided about, a
-- request that passed a signal, or a turn that replies with an end
abbrev pub may_end : PlainStep → Reply → Bool
may_end (Step.Kill caller which s) r = s == SIGKILL
may_end (Step.Handle caller) (Reply.Handled pid status view index decision) = true
may_end (Step.Ptrace caller q target arg) Reply.Done = passes_signal q arg
may_end (Step.Turn tid a) (Reply.Ended status) = true
may_end s r = false
