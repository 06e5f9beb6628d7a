use Rattle.proc_table.proofs.CommonNames.{nat_tests, sym, subst, arith, ◌≤◌, ◌∙◌, Named}
use Rattle.proc_table.proofs.KeepsProcesses.{keeps-add_process}
use Rattle.proc_table.proofs.Rising.{Lacks-from_any}
use Rattle.proc_table.proofs.Indexed.{numbers-placed, news-placed, pages-placed}
use Rattle.proc_table.proofs.Tied.{named_list_owners}
use Rattle.proc_table.proofs.tables.Tables.add_process.Goals as goal

pub add-requires-clause-named : goal.add-requires-clause-named
add-requires-clause-named c = named_list_owners _ c.args.row (subst (λ v. Named v.rows c.args.row) (sym c.self.view_is) c.requires.named)

pub invariant_of-self : goal.invariant_of-self
invariant_of-self c =
    let has = c.self.invariant in
    let ps = c.self.inside.processes.rows in
    let lacks = Lacks-from_any c.args.row.pid ps (rw (← c.self.view_is) at c.requires.fresh) in
    let low : 1000 ≤ c.args.row.pid = omega (arith, c.requires.home.block.0) in
    let number = c.get-place.ensures.number in
    record {
      kept = grind (arith, nat_tests, keeps-add_process, has.kept);
      numbers = rw c.add.ensures.rows (numbers-placed c.self.inside.pids.pages c.put.new.self.pages ps has.numbers c.args.row has.kept.rising lacks low (rw number at c.put.ensures.here)
          (λ n apart. (rw number at c.put.ensures.others) n apart ∙ c.begin_page.ensures.numbers n));
      news = rw c.add.ensures.rows (news-placed c.self.inside.news.pages c.put-2.new.self.pages ps has.news c.args.row has.kept.rising lacks low ((rw number at c.put-2.ensures.here) ∙ c.has_news.ensures)
          (λ n apart. (rw number at c.put-2.ensures.others) n apart ∙ c.begin_page-2.ensures.numbers n));
      begun = rw c.add.ensures.rows (pages-placed c.self.inside.news.pages c.put-2.new.self.pages ps has.begun (λ k was. c.put-2.ensures.pages k (c.begin_page-2.ensures.others k was))
          c.args.row has.kept.rising lacks low (c.put-2.ensures.pages _ (rw number at c.begin_page-2.ensures.begun)));
    }
