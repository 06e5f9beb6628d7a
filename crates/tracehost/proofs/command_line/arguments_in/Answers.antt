use Rattle.tracehost.specs.Found.{alone}
use Rattle.tracehost.proofs.command_line.arguments_in.Goals as goal

pub returns-in-Some : goal.returns-in-Some
returns-in-Some c = alone c.in-Some.file c.in-Some.ensures c.of_file.ensures
