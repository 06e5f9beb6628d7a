use Rattle.std.proofs.Common.{sym, ◌∙◌}
use Rattle.clap.specs.Matches.{found_of}
use Rattle.tracehost.specs.Found.{found}
use Rattle.tracehost.proofs.command_line.found_arguments.Goals as goal

pub returns-then-are_so : goal.returns-then-are_so
returns-then-are_so c = found (found_of c.in-Ok.matches) c.in_ok-arguments.ensures (sym c.are_so.ensures ∙ c.if-are_so.true)
