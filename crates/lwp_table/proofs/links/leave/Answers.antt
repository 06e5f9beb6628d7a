use Rattle.lwp_table.proofs.CommonNames.{None, Some, ap, arith, left, without_slot, ◌∙◌}
use Rattle.lwp_table.proofs.HeadLemmas.{had, changed}
use Rattle.lwp_table.proofs.links.leave.Goals as goal

pub without-requires : goal.without-requires
without-requires c = grind (arith, had c.args.heads.now c.head_place-place.result c.args.gone.now.row.pid c.head_place-place.ensures (Some c.in-Some.ends.now) c.in-Some.ensures.value, c.requires)

pub returns-in-Some-clause-ends : goal.returns-in-Some-clause-ends
returns-in-Some-clause-ends c =
    let gone = c.args.gone.now in
    changed c.args.heads.now c.head_place-place.result gone.row.pid c.head_place-place.ensures c.in-Some.ensures.unique (λ ends. without_slot gone.own (left ends.marks gone.row.tid) ends) c.in-Some.ends.now c.without.result c.in-Some.ensures.value
    (c.without.ensures ∙ ap (λ marks. without_slot gone.own marks c.in-Some.ends.now) c.left.ensures)

pub returns-in_default-clause-ends : goal.returns-in_default-clause-ends
returns-in_default-clause-ends c = absurd (grind (arith, had c.args.heads.now c.head_place-place.result c.args.gone.now.row.pid c.head_place-place.ensures None c.in_default.ensures.value, c.requires))
