use Rattle.proc_table.proofs.CommonNames.{nat_tests, ap, ◌∙◌, ◌-◌, ◌≤◌, arith, is_process}
use Rattle.proc_table.proofs.LinkedLists.{each_kin}
use Rattle.proc_table.proofs.Tied.{children_named}
use Rattle.proc_table.proofs.Bits.{begun}
use Rattle.proc_table.proofs.Indexed.{numbers-without, news-without, pages-without}
use Rattle.proc_table.proofs.Seen.{has_row}
use Rattle.proc_table.proofs.KeepsProcesses.{keeps-drop_process}
use Rattle.proc_table.proofs.tables.Tables.remove_process.Goals as goal

pub put-requires-clause-begun : goal.put-requires-clause-begun
put-requires-clause-begun c =
    grind (arith, nat_tests, begun c.self.inside.pids.pages (c.args.pid - 1000), c.self.invariant.numbers (c.args.pid - 1000), has_row c.args.pid c.self.inside.processes.rows, ap (λ v. is_process v.rows c.args.pid) c.self.view_is, c.requires.there)

pub put-requires-2-clause-begun : goal.put-requires-2-clause-begun
put-requires-2-clause-begun c =
    grind (arith, nat_tests, c.self.invariant.begun (c.args.pid - 1000), has_row c.args.pid c.self.inside.processes.rows, ap (λ v. is_process v.rows c.args.pid) c.self.view_is, c.requires.there)

pub remove-requires-clause-there : goal.remove-requires-clause-there
remove-requires-clause-there c = has_row c.args.pid c.self.inside.processes.rows ∙ ap (λ v. is_process v.rows c.args.pid) c.self.view_is ∙ c.requires.there

pub remove-requires-clause-unnamed : goal.remove-requires-clause-unnamed
remove-requires-clause-unnamed c = grind (arith, nat_tests, each_kin, children_named)

pub invariant_of-self : goal.invariant_of-self
invariant_of-self c =
    let has = c.self.invariant in
    let ps = c.self.inside.processes.rows in
    let low : 1000 ≤ c.args.pid = grind (arith, nat_tests) in
    record {
      kept = grind (arith, nat_tests, keeps-drop_process c.args.pid _ has.kept);
      numbers = rw c.remove.ensures.rows (numbers-without c.self.inside.pids.pages c.put.new.self.pages ps has.numbers c.args.pid low (rw c.get.ensures.number at c.put.ensures.here) (rw c.get.ensures.number at c.put.ensures.others));
      news = rw c.remove.ensures.rows (news-without c.self.inside.news.pages c.put-2.new.self.pages ps has.news c.args.pid low (rw c.get-2.ensures.number at c.put-2.ensures.here) (rw c.get-2.ensures.number at c.put-2.ensures.others));
      begun = rw c.remove.ensures.rows (pages-without c.self.inside.news.pages c.put-2.new.self.pages ps has.begun c.put-2.ensures.pages c.args.pid);
    }
