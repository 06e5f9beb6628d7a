use Rattle.proc_table.proofs.CommonNames.{ap, sym, ◌∙◌, arith}
use Rattle.proc_table.specs.Walks.{next_news}
use Rattle.proc_table.proofs.NextNews.{next_news-none, next_news-found}
use Rattle.proc_table.proofs.tables.Tables.next_news.Goals as goal

pub returns-in_err-place-clause-row : goal.returns-in_err-place-clause-row
returns-in_err-place-clause-row c =
    let has = c.self.invariant in
    c.from_residual.ensures ∙ sym (next_news-none c.args.uid c.args.after c.self.inside.processes.rows has.kept.rising has.kept.in_own_blocks c.self.inside.news.pages has.news c.in_err-place.ensures.none)
    ∙ ap (λ v. next_news c.args.uid c.args.after v.rows.processes) c.self.view_is

pub returns-clause-row : goal.returns-clause-row
returns-clause-row c =
    let has = c.self.invariant in
    let found = c.in_ok-place.ensures.some in
    grind (arith, c.process_by_number.ensures.row, next_news-found c.args.uid c.args.after c.self.inside.processes.rows has.kept.rising has.kept.in_own_blocks c.self.inside.news.pages has.news c.in_ok-place.place c.next_in.ensures.user found.0 found.1 found.2 found.3, c.self.view_is)
