use Rattle.std.proofs.Common.{refl}
use Rattle.step_types.specs.declared.{step.Step.TheVariants.Ptrace, Request.TheVariants.TraceMe}
use Rattle.open_sessions.specs.Laws.{MachineMakesAlike, HostMakesAlike}
use Rattle.open_sessions.proofs.laws.a_line_is_made_alike.Goals as goal

machine : MachineMakesAlike
machine u (Ptrace caller TraceMe target arg) m = refl
machine u s m = refl

host : HostMakesAlike
host u (Ptrace caller TraceMe target arg) m k r made = record { machine = made.machine; memory = made.memory; refused = made.refused; sound = made.sound }
host u s m k r made = made

pub returns : goal.returns
returns c = record { machine = machine; host = host }
