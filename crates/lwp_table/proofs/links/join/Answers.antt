use Rattle.lwp_table.proofs.CommonNames.{arith, extended, gathered, None, Some, ap, nat_eq, subst, sym, ◌∙◌, ListHead}
use Rattle.std.specs.Prelude.{OnOk}
use Rattle.indexmap.specs.IndexMap.{Updates}
use Rattle.lwp_table.proofs.HeadLemmas.{had, added, changed}
use Rattle.lwp_table.proofs.links.join.Goals as goal

pub extended-requires : goal.extended-requires
extended-requires c = grind (arith, had c.args.heads.now c.noted_place-place.result c.args.row.now.pid c.noted_place-place.ensures (Some c.in-Some.ends.now) c.in-Some.ensures.value, c.requires.count)

pub returns-in-Some-clause-before : goal.returns-in-Some-clause-before
returns-in-Some-clause-before c = sym (ap (λ (ends : ListHead). ends.last) (had c.args.heads.now c.noted_place-place.result c.args.row.now.pid c.noted_place-place.ensures (Some c.in-Some.ends.now) c.in-Some.ensures.value))

pub returns-in-Some-clause-ends : goal.returns-in-Some-clause-ends
returns-in-Some-clause-ends c =
    let row = c.args.row.now in
    let ends = c.in-Some.ends.now in
    let place = c.noted_place-place in
    changed c.args.heads.now place.result row.pid place.ensures c.in-Some.ensures.unique (λ ends. extended c.args.slot (gathered ends.marks row) ends) ends c.extended.result c.in-Some.ensures.value
    (c.extended.ensures ∙ ap (λ marks. extended c.args.slot marks ends) c.gathered.ensures)

pub returns-clause-before : goal.returns-clause-before
returns-clause-before c = sym (ap (λ (ends : ListHead). ends.last) (had c.args.heads.now c.noted_place-place.result c.args.row.now.pid c.noted_place-place.ensures None c.in_default.ensures.value))

pub returns-clause-ends : goal.returns-clause-ends
returns-clause-ends c q =
    let row = c.args.row.now in
    let place = c.noted_place-place in
    let inserted = subst (λ r. OnOk r (Updates nat_eq c.args.heads.now c.insert.new.self c.get.result (Some c.extended-2.result))) c.unwrap.ensures c.insert.ensures.updates in
    let updates = subst (λ pid. Updates nat_eq c.args.heads.now c.insert.new.self pid (Some c.extended-2.result)) c.get.ensures.number inserted in
    let made = c.extended-2.ensures ∙ ap (λ marks. extended c.args.slot marks c.empty-ends.result) c.gathered-2.ensures ∙ ap (λ (ends : ListHead). extended c.args.slot (gathered ends.marks row) ends) c.empty-ends.ensures in
    added c.args.heads.now place.result row.pid place.ensures c.in_default.ensures.value c.insert.new.self (λ ends. extended c.args.slot (gathered ends.marks row) ends) c.extended-2.result updates made q
