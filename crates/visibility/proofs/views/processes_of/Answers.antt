use Rattle.visibility.proofs.CommonNames.{◌≡◌, rules, arith, Some, ◌==◌, append-nil, above_first, above_none, next_over}
use Rattle.proc_table.specs.Walks.{next_of}
use Rattle.visibility.proofs.Walked.{row_next}
use Rattle.visibility.proofs.views.processes_of.Goals as goal

pub loop-p-init : goal.loop-p-init
loop-p-init c = record { below = omega arith; listed = rw c.in_ok-rows.ensures.items (above_first (λ p. p.uid == c.args.user) c.args.tables.now.rows.processes c.process_count.ensures.kept.in_own_blocks) }

pub loop-p-smaller : goal.loop-p-smaller
loop-p-smaller c =
    let at : next_of c.args.user c.loop-p.after c.args.tables.now.rows.processes ≡ Some c.in-Some.p = cc in
    let over = next_over (λ p. p.uid == c.args.user) c.loop-p.after c.args.tables.now.rows.processes c.in-Some.p at in
    omega (arith, over, c.get-after.ensures.number, c.get-after.ensures.below)

pub loop-p-preserved : goal.loop-p-preserved
loop-p-preserved c =
    let at : next_of c.args.user c.loop-p.after c.args.tables.now.rows.processes ≡ Some c.in-Some.p = cc in
    let next = row_next (λ p. p.uid == c.args.user) c.loop-p.after c.args.tables.now.rows.processes c.in-Some.p c.loop-p.rows.items _ c.next_of.ensures.kept.rising at c.loop-p.invariant.listed in
    record { below = c.get-after.ensures.below; listed = rw (c.in_ok-push.ensures.items, c.get-after.ensures.number) next }

pub returns : goal.returns
returns c = search (rules, append-nil, above_none)
