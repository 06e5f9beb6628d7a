use Rattle.proc_table.proofs.CommonNames.{◌≢◌, ◌∙◌, arith}
use Rattle.proc_table.proofs.Firsts.{child_found}
use Rattle.proc_table.proofs.processes.Processes.find_child.Goals as goal

pub returns : goal.returns
returns g c = λ t decides.
    let apart : c.args.pid ≢ 1 = (λ same. omega (arith, same, c.get-number.ensures.number, c.get-number.ensures.least)) in
    c.find_named.ensures t decides ∙ child_found c.args.pid apart t c.args.self.now.rows
