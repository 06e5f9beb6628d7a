use Rattle.lwp_table.proofs.CommonNames.{option_map, is_bare, traits_of, marked, noted, nat_eq, not, ◌≡◌, ℕ, ◌&&◌, ◌∙◌, ap, ends_at, is_some, true, refl, waits_for, Updates-with_value}
use Rattle.slab.specs.Slab.{get as slot_get}
use Rattle.lwp_table.proofs.IndexLemmas.{face, some_and, leads, slot_has, row_there, other_there}
use Rattle.lwp_table.proofs.KeptLemmas.{LwpTableInvariant-awaited, LwpTableInvariant-noted, LwpTableInvariant-set, rows-set}
use Rattle.lwp_table.proofs.NamedLemmas.{waiter-same, AreNamed-put}
use Rattle.lwp_table.proofs.table.LwpTable.set.Goals as goal

pub slot_of-slot-requires-clause-there : goal.slot_of-slot-requires-clause-there
slot_of-slot-requires-clause-there c = leads (slot_get c.self.inside.rows) c.self.inside.slots.entries c.self.inside.births c.self.invariant.kept.indexed c.args.row.tid (ap is_some (some_and _ _ (rw (← c.self.view_is) at c.requires)).1)

pub index_mut-requires : goal.index_mut-requires
index_mut-requires c = slot_has (slot_get c.self.inside.rows) c.self.inside.slots.entries c.self.inside.births c.self.invariant.kept.indexed c.args.row.tid c.slot_of-slot.result (ap is_some (some_and _ _ (rw (← c.self.view_is) at c.requires)).1) c.slot_of-slot.ensures

pub index-requires : goal.index-requires
index-requires c = slot_has (slot_get c.self.inside.rows) c.self.inside.slots.entries c.self.inside.births c.self.invariant.kept.indexed c.args.row.tid c.slot_of-slot.result (ap is_some (some_and _ _ (rw (← c.self.view_is) at c.requires)).1) c.slot_of-slot.ensures

pub invariant_of-self : goal.invariant_of-self
invariant_of-self c =
    let row = c.args.row in
    let q = c.slot_of-slot.result in
    let old = c.index_mut.result.now in
    let updates = Updates-with_value c.self.inside.rows q (record old { row = row }) (ap is_some c.index_mut.ensures.value) in
    let its = rw (← c.self.view_is) at c.requires in
    let at = c.slot_of-slot.ensures in
    let put = LwpTableInvariant-set c.self.invariant.kept row q old _ its at c.index_mut.ensures.value updates.changed updates.others (λ p l. true) (λ s slot there. refl) in
    let indexed = c.self.invariant.kept.indexed in
    let kept =
    LwpTableInvariant-noted put c.index.result.now.row row c.note.new.heads.entries c.note.ensures.ends
    (λ s slot there same. row_there (slot_get c.self.inside.rows) _ q old row updates.changed updates.others _ _ indexed at s slot there same)
    (λ s slot there off. c.self.invariant.kept.covered s slot (other_there (slot_get c.self.inside.rows) _ q old row updates.changed updates.others s slot there off)) in
    let waiters : (p : ℕ) → (ends_at c.note.new.heads.entries p).waiter ≡ (ends_at c.self.inside.heads.entries p).waiter = λ p. waiter-same (nat_eq row.pid p && not (is_bare (traits_of c.index.result.now.row) && is_bare (traits_of row))) _ (ends_at c.self.inside.heads.entries p) (marked (noted (ends_at c.self.inside.heads.entries row.pid).marks row) (ends_at c.self.inside.heads.entries p)) refl (c.note.ensures.ends p) in
    record {
      kept = LwpTableInvariant-awaited kept row.tid (λ p. not c.name_waiter.new.unnamed && waits_for p row.mode) c.name_waiter.new.heads.entries c.name_waiter.ensures.ends (λ p l told. told);
      named = λ all.
          AreNamed-put (slot_get c.self.inside.rows) _ c.self.inside.slots.entries c.self.inside.heads.entries c.name_waiter.new.heads.entries q (record old { row = row }) updates.changed put.indexed.listed
          (λ s off. ap (option_map face) (updates.others s off))
          (λ child waits. rw (c.name_waiter.ensures.ends child, all, waits) refl)
          (λ child waits. rw (c.name_waiter.ensures.ends child, all, waits) (waiters child))
          (λ s slot child there waits its. c.name_waiter.ensures.alone all s slot child there waits (record { is = waiters child ∙ its.is; waits = its.waits }))
          (c.self.invariant.named (c.name_waiter.ensures.before all));
    }

pub name_waiter-requires : goal.name_waiter-requires
name_waiter-requires c =
    let old = c.index_mut.result.now in
    let updates = Updates-with_value c.self.inside.rows c.slot_of-slot.result (record old { row = c.args.row }) (ap is_some c.index_mut.ensures.value) in
    (LwpTableInvariant-set c.self.invariant.kept c.args.row c.slot_of-slot.result old _ (rw (← c.self.view_is) at c.requires) c.slot_of-slot.ensures c.index_mut.ensures.value updates.changed updates.others (λ p l. true) (λ s slot there. refl)).indexed.listed

pub returns-clause-rows : goal.returns-clause-rows
returns-clause-rows c =
    let updates = Updates-with_value c.self.inside.rows c.slot_of-slot.result (record (c.index_mut.result.now) { row = c.args.row }) (ap is_some c.index_mut.ensures.value) in
    rw (← c.self.view_is) (rows-set c.self.invariant.kept c.args.row c.slot_of-slot.result c.index_mut.result.now _ (rw (← c.self.view_is) at c.requires)
    c.slot_of-slot.ensures c.index_mut.ensures.value updates.changed updates.others)
