use Rattle.requests.proofs.CommonNames.{sym, ◌∙◌, arith, nat_tests}
use Rattle.requests.proofs.SoundAfterRequest.{named_own, reporting_own}
use Rattle.requests.proofs.ptrace.ptrace.Goals as goal

pub command-requires-clause-own : goal.command-requires-clause-own
command-requires-clause-own c = grind (arith, nat_tests, named_own c.args.user c.args.target c.in-Some-reported_stop.reporting c.args.tables.now.rows c.in-Some.process c.target_of.ensures.kept (sym c.target_of.ensures.process ∙ c.in-Some.is) (reporting_own c.args.tables.now.rows c.in-Some.process c.in-Some-reported_stop.reporting c.requires.sound c.in-Some.ensures.row (sym c.reported_stop.ensures ∙ c.in-Some-reported_stop.is)))
