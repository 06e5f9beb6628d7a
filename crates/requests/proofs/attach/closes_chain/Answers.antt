use Rattle.requests.proofs.CommonNames.{◌-◌, arith, sym, ◌∙◌, rules, nat_tests}
use Rattle.requests.proofs.ClosesChain.{meets-next, meets-over}
use Rattle.requests.proofs.attach.closes_chain.Goals as goal

pub loop-links-preserved : goal.loop-links-preserved
loop-links-preserved c = grind (arith, nat_tests, meets-next (250 - c.loop-links.links) c.args.tables.now.rows.processes c.args.pid c.loop-links.at c.in-Some.tracer (omega arith) (sym c.tracer_of.ensures ∙ c.in-Some.is) (search rules))

pub returns : goal.returns
returns c = grind (arith, nat_tests, meets-over c.args.tables.now.rows.processes c.args.pid c.loop-links.at)
