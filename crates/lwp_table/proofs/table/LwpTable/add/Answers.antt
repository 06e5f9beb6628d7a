use Rattle.lwp_table.proofs.CommonNames.{not, ◌&&◌, refl, waits_for, ap, sym, ◌∙◌, arith, has_lwp, ends_at, empty_head, get_or, place_of}
use Rattle.slab.specs.Slab.{get as slot_get}
use Rattle.lwp_table.proofs.WordLemmas.{lwp_of-fresh}
use Rattle.lwp_table.proofs.KeptLemmas.{HasJoined, own_count, user_count, rows-added, LwpTableInvariant-added, LwpTableInvariant-awaited, AreNamed-added}
use Rattle.lwp_table.proofs.table.LwpTable.add.Goals.{After-unwrap}
use Rattle.lwp_table.proofs.table.LwpTable.add.Goals as goal

pub join-requires-clause-count : goal.join-requires-clause-count
join-requires-clause-count c = omega (arith, own_count c.self.invariant.kept c.args.row.pid, c.requires.room, ap (λ v. v.spare) c.self.view_is)

pub join_user-requires-clause-count : goal.join_user-requires-clause-count
join_user-requires-clause-count c = λ below. omega (arith, user_count c.self.invariant.kept (place_of c.args.row.tid) below, c.requires.room, ap (λ v. v.spare) c.self.view_is)

-- what the steps up to the index establish
joins : (c : After-unwrap) → HasJoined (slot_get c.self.inside.rows) c.self.inside.slots.entries (ends_at c.self.inside.heads.entries c.args.row.pid) (get_or c.self.inside.users.items (place_of c.args.row.tid) empty_head) c.self.inside.births c.args.row c.vacant_key-slot.result (slot_get c.set_link-2.new.slots) c.insert.new.self.entries
joins c =
    let at = c.insert_reserved.ensures.key ∙ sym c.vacant_key-slot.ensures.value in
    record {
      within = c.join_user.ensures.below;
      vacant = c.vacant_key-slot.ensures.vacant;
      taken = slot_get c.insert_reserved.new.self;
      put = rw (at, c.join.ensures.before, c.join_user.ensures.before) at c.insert_reserved.ensures.updates.changed;
      others = rw at at c.insert_reserved.ensures.updates.others;
      listed = slot_get c.set_link.new.slots;
      links_own = rw c.join.ensures.before at c.set_link.ensures.linked;
      links_user = rw c.join_user.ensures.before at c.set_link-2.ensures.linked;
      change = rw c.get.ensures.number at (rw c.unwrap.ensures at c.insert.ensures.updates).0;
      fresh = lwp_of-fresh c.args.row.tid _ (ap (λ v. has_lwp c.args.row.tid v.rows) c.self.view_is ∙ c.requires.fresh);
    }

pub name_waiter-requires : goal.name_waiter-requires
name_waiter-requires c = (LwpTableInvariant-added c.self.invariant.kept c.args.row c.vacant_key-slot.result _ _ (joins (goal.at.name_waiter-requires c).After-unwrap) c.join.new.heads.entries c.join.ensures.ends (λ p l told. told) _ c.join_user.ensures.ends).indexed.listed

pub invariant_of-self : goal.invariant_of-self
invariant_of-self c =
    let row = c.args.row in
    let added = LwpTableInvariant-added c.self.invariant.kept row c.vacant_key-slot.result _ _ (joins (goal.at.invariant_of-self c).After-unwrap) c.join.new.heads.entries c.join.ensures.ends (λ p l told. told) _ c.join_user.ensures.ends in
    record {
      kept = LwpTableInvariant-awaited added row.tid (λ p. not c.name_waiter.new.unnamed && waits_for p row.mode) c.name_waiter.new.heads.entries c.name_waiter.ensures.ends (λ p l told. told);
      named = λ all.
          AreNamed-added c.self.invariant.kept row c.vacant_key-slot.result _ _ (joins (goal.at.invariant_of-self c).After-unwrap) c.join.new.heads.entries c.join.ensures.ends (λ p l told. told) c.name_waiter.new.heads.entries
          (λ child waits. rw (c.name_waiter.ensures.ends child, all, waits) refl) (λ child waits. rw (c.name_waiter.ensures.ends child, all, waits) refl) (c.name_waiter.ensures.alone all) (c.self.invariant.named (c.name_waiter.ensures.before all));
    }

pub returns-clause-rows : goal.returns-clause-rows
returns-clause-rows c = rw (← c.self.view_is) (rows-added c.self.invariant.kept c.args.row c.vacant_key-slot.result _ _ (joins (goal.at.returns-clause-rows c).After-unwrap))
