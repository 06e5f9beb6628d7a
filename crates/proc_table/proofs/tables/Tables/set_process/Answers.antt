use Rattle.proc_table.proofs.CommonNames.{nat_tests, arith, ap, is_some, ◌≤◌, ◌∙◌}
use Rattle.proc_table.proofs.Every.{some_and}
use Rattle.proc_table.proofs.KeepsProcesses.{keeps_set_process}
use Rattle.proc_table.proofs.Indexed.{numbers_set, news-put, pages-put}
use Rattle.proc_table.proofs.tables.Tables.set_process.Goals as goal

pub invariant_of-self : goal.invariant_of-self
invariant_of-self c =
    let has = c.self.invariant in
    let ps = c.self.inside.processes.rows in
    let before = some_and _ _ (rw (← c.self.view_is) at c.requires.there) in
    let low : 1000 ≤ c.args.row.pid = grind (arith, nat_tests) in
    record {
      kept = grind (arith, nat_tests, keeps_set_process, has.kept);
      numbers = rw c.set.ensures.rows (numbers_set c.self.inside.pids.pages c.args.row ps has.numbers);
      news = rw c.set.ensures.rows (news-put c.self.inside.news.pages c.put.new.self.pages ps has.news c.args.row low (ap is_some before.1) ((rw c.get.ensures.number at c.put.ensures.here) ∙ c.has_news.ensures) (rw c.get.ensures.number at c.put.ensures.others));
      begun = rw c.set.ensures.rows (pages-put c.self.inside.news.pages c.put.new.self.pages ps has.begun c.put.ensures.pages c.args.row);
    }
