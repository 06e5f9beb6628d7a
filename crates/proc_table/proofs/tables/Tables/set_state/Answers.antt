use Rattle.proc_table.proofs.CommonNames.{nat_tests, arith, ◌≡◌, ◌≤◌, ◌+◌, ◌-◌, ◌∙◌, refl, sym, subst, ap, is_some, ProcData, IsRow}
use Rattle.proc_table.specs.declared.State.{State}
use Rattle.proc_table.proofs.Tied.{StaysInLists}
use Rattle.proc_table.proofs.EditedRows.{row, own, edited-kept, edited-set}
use Rattle.proc_table.proofs.Indexed.{numbers_set, news-put, pages-put}
use Rattle.proc_table.proofs.Rows.{process_of-pid}
use Rattle.proc_table.proofs.tables.Tables.set_state.Goals as goal

abbrev with_state : State → ProcData → ProcData
with_state state p = record p { state = state }

stays : (state : State) (p : ProcData) → StaysInLists p (with_state state p)
stays state p = record { number = refl; user = refl; tracer = refl; parent = refl }

pub put-requires-clause-begun : goal.put-requires-clause-begun
put-requires-clause-begun c =
    let has = c.self.invariant in
    let its = row _ has.kept c.args.pid (subst (λ v. IsRow v.rows c.args.pid) (sym c.self.view_is) c.requires.there) in
    let number : (c.get.result - 1000) + 1000 ≡ c.args.pid = omega (arith, c.get.ensures.least, c.get.ensures.number) in
    has.begun (c.get.result - 1000) (rw number (ap is_some its.1))

pub invariant_of-self : goal.invariant_of-self
invariant_of-self c =
    let has = c.self.invariant in
    let there = subst (λ v. IsRow v.rows c.args.pid) (sym c.self.view_is) c.requires.there in
    let its = row _ has.kept c.args.pid there in
    let ps = c.self.inside.processes.rows in
    let new = with_state c.args.state its.0 in
    let set = c.set_state-has_news.ensures in
    let number : c.get.result ≡ its.0.pid = c.get.ensures.number ∙ sym (process_of-pid c.args.pid its.0 ps its.1) in
    let low : 1000 ≤ its.0.pid = omega (arith, c.get.ensures.least, number) in
    record {
      kept = grind (arith, nat_tests, set.rows its.0 its.1, edited-kept _ has.kept c.args.pid there (with_state c.args.state) (stays c.args.state));
      numbers = rw (set.rows its.0 its.1) (numbers_set c.self.inside.pids.pages new ps has.numbers);
      news = rw (set.rows its.0 its.1) (news-put c.self.inside.news.pages c.put.new.self.pages ps has.news new low (ap is_some (own _ has.kept c.args.pid there)) ((rw number at c.put.ensures.here) ∙ set.news its.0 its.1) (rw number at c.put.ensures.others));
      begun = rw (set.rows its.0 its.1) (pages-put c.self.inside.news.pages c.put.new.self.pages ps has.begun c.put.ensures.pages new);
    }

pub returns-clause-rows : goal.returns-clause-rows
returns-clause-rows c =
    let there = subst (λ v. IsRow v.rows c.args.pid) (sym c.self.view_is) c.requires.there in
    let its = row _ c.self.invariant.kept c.args.pid there in
    grind (arith, nat_tests, c.set_state-has_news.ensures.rows its.0 its.1, edited-set _ c.self.invariant.kept c.args.pid there (with_state c.args.state) (stays c.args.state))
