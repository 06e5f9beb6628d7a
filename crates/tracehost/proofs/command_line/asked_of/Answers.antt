use Rattle.tracehost.proofs.command_line.asked_of.Goals as goal

pub returns-in-Ok : goal.returns-in-Ok
returns-in-Ok c = record { arguments = c.in_ok-arguments.arguments; of = c.in_ok-arguments.ensures; user = c.in-Ok.ensures.0; exact = c.in-Ok.ensures.1 }
