use Rattle.std.proofs.Common.{length}
use Rattle.open_sessions.proofs.line_steps.+are_named.Given as goal

abbrev pub decreases-are_named : goal.decreases-are_named
decreases-are_named l = length l.rules.now
