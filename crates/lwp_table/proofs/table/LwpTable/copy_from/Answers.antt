use Rattle.lwp_table.proofs.CommonNames.{ap}
use Rattle.lwp_table.proofs.CopyLemmas.{from-ok, get-same}
use Rattle.lwp_table.proofs.table.LwpTable.copy_from.Goals as goal

pub invariant_of-self : goal.invariant_of-self
invariant_of-self c =
    let rows = get-same c.source.inside.rows c.copy_values.new.slots (from-ok c.copy_values.result c.if-is_ok.ensures.value c.copy_values.ensures) in
    let slots = from-ok c.copy_entries.result c.if-is_ok-2.ensures.value c.copy_entries.ensures in
    let heads = from-ok c.copy_entries-then-is_ok-3.result c.if-is_ok-4.ensures.value c.copy_entries-then-is_ok-3.ensures in
    let users = from-ok c.copy_from-then-is_ok-4.result c.if-is_ok-5.ensures.value c.copy_from-then-is_ok-4.ensures in
    rw (rows, slots, heads, users) c.source.invariant

pub returns-then-is_ok-5-clause-copied : goal.returns-then-is_ok-5-clause-copied
returns-then-is_ok-5-clause-copied c =
    let rows = get-same c.source.inside.rows c.copy_values.new.slots (from-ok c.copy_values.result c.if-is_ok.ensures.value c.copy_values.ensures) in
    let slots = from-ok c.copy_entries.result c.if-is_ok-2.ensures.value c.copy_entries.ensures in
    rw (rows, slots) (ap (λ t. t.rows) c.source.view_is)
