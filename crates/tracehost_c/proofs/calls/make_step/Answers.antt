use Rattle.{std.proofs.Common.{arith, refl}, tracehost_c.specs.Calls.answered}
use Rattle.tracehost_c.proofs.calls.make_step.Goals as goal

pub returns-in-Some : goal.returns-in-Some
returns-in-Some c = let made = c.in-Ok.ensures.stepped in answered refl c.in-Ok.ensures.room made (grind (arith, c.set.ensures, c.in-Some.ensures, made.last))
