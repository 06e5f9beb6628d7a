use Rattle.requests.proofs.CommonNames.{arith, nat_eq, rules, nat_tests, Named, every_found, process_of-pid, found_row, row_found}
use Rattle.requests.proofs.attach.parent_of.Goals as goal

pub returns-in-Some : goal.returns-in-Some
returns-in-Some c = search (rules, nat_tests, process_of-pid, found_row)

pub returns-in-None : goal.returns-in-None
returns-in-None c = grind (arith, nat_tests, row_found c.args.process.now.parent c.args.tables.now.rows.processes ((every_found (Named c.args.tables.now.rows) (λ q. nat_eq q.pid c.args.process.now.pid) c.args.tables.now.rows.processes c.args.process.now c.process_by_number.ensures.kept.named c.requires.at).parent (λ is. omega (arith, is))))
