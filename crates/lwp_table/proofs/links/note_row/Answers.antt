use Rattle.lwp_table.proofs.CommonNames.{arith, marked, noted, ends_at, refl, Some, ◌≡◌}
use Rattle.lwp_table.proofs.HeadLemmas.{had, changed, unchanged}
use Rattle.lwp_table.proofs.links.note_row.Goals as goal

pub returns-then-is_some-clause-ends : goal.returns-then-is_some-clause-ends
returns-then-is_some-clause-ends c =
    let row = c.args.row.now in
    let ends = c.in-Some.ends.now in
    let place = c.head_place-place in
    let put = marked (noted (ends_at c.args.heads.now.entries row.pid).marks row) in
    let was = had c.args.heads.now place.result row.pid place.ensures (Some ends) c.in-Some.ensures.value in
    let made : record ends { marks = c.noted-ends.result } ≡ put ends = grind (arith, was, c.noted-ends.ensures, c.is_some.ensures, c.if-is_some.true) in
    changed c.args.heads.now place.result row.pid place.ensures c.in-Some.ensures.unique put ends (record ends { marks = c.noted-ends.result }) c.in-Some.ensures.value made

pub returns-else-is_some-clause-ends : goal.returns-else-is_some-clause-ends
returns-else-is_some-clause-ends c =
    let row = c.args.row.now in
    let ends = c.in-Some.ends.now in
    let place = c.head_place-place in
    let put = marked (noted (ends_at c.args.heads.now.entries row.pid).marks row) in
    changed c.args.heads.now place.result row.pid place.ensures c.in-Some.ensures.unique put ends ends c.in-Some.ensures.value (grind (arith, c.is_some.ensures, c.if-is_some.false))

pub returns-in_default-clause-ends : goal.returns-in_default-clause-ends
returns-in_default-clause-ends c =
    let row = c.args.row.now in
    let place = c.head_place-place in
    unchanged c.args.heads.now place.result row.pid place.ensures c.in_default.ensures.value (marked (noted (ends_at c.args.heads.now.entries row.pid).marks row)) refl
