use Rattle.proc_table.proofs.CommonNames.{nat_tests, arith, ℕ, refl, sym, subst, ProcData, IsRow}
use Rattle.proc_table.proofs.Tied.{StaysInLists}
use Rattle.proc_table.proofs.EditedRows.{row, own, edited-kept, edited-set}
use Rattle.proc_table.proofs.Indexed.{numbers_set, news_same, pages-put}
use Rattle.proc_table.proofs.tables.Tables.set_pending.Goals as goal

abbrev with_pending : ℕ → ProcData → ProcData
with_pending pending p = record p { pending = pending }

stays : (pending : ℕ) (p : ProcData) → StaysInLists p (with_pending pending p)
stays pending p = record { number = refl; user = refl; tracer = refl; parent = refl }

pub invariant_of-self : goal.invariant_of-self
invariant_of-self c =
    let has = c.self.invariant in
    let there = subst (λ v. IsRow v.rows c.args.pid) (sym c.self.view_is) c.requires.there in
    let its = row _ has.kept c.args.pid there in
    let ps = c.self.inside.processes.rows in
    let new = with_pending c.args.pending its.0 in
    record {
      kept = grind (arith, nat_tests, c.set_pending.ensures.rows its.0 its.1, edited-kept _ has.kept c.args.pid there (with_pending c.args.pending) (stays c.args.pending));
      numbers = rw (c.set_pending.ensures.rows its.0 its.1) (numbers_set c.self.inside.pids.pages new ps has.numbers);
      news = rw (c.set_pending.ensures.rows its.0 its.1) (news_same c.self.inside.news.pages ps has.news its.0 new (own _ has.kept c.args.pid there) refl refl);
      begun = rw (c.set_pending.ensures.rows its.0 its.1) (pages-put c.self.inside.news.pages c.self.inside.news.pages ps has.begun (λ k was. was) new);
    }

pub returns-clause-rows : goal.returns-clause-rows
returns-clause-rows c =
    let there = subst (λ v. IsRow v.rows c.args.pid) (sym c.self.view_is) c.requires.there in
    let its = row _ c.self.invariant.kept c.args.pid there in
    grind (arith, nat_tests, c.set_pending.ensures.rows its.0 its.1, edited-set _ c.self.invariant.kept c.args.pid there (with_pending c.args.pending) (stays c.args.pending))
