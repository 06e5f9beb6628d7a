use Rattle.lwp_table.proofs.CommonNames.{◌≡◌, ℕ, false, nat_eq, lookup, arith, nat_tests, covering, LwpTableInvariant}
use Rattle.slab.specs.Slab.{get as slot_get}
use Rattle.lwp_table.proofs.IndexLemmas.{leads, slot_has, lwp_of-found}
use Rattle.lwp_table.proofs.KeptLemmas.{HasLeft, neighbours, own_positive, user_positive, LwpTableInvariant-removed, LwpTableInvariant-given_back, AreNamed-removed, AreNamed-given_back, rows-removed}
use Rattle.lwp_table.proofs.table.LwpTable.remove.Goals.{After-close_up}
use Rattle.lwp_table.proofs.table.LwpTable.remove.Goals as goal

pub slot_of-slot-requires-clause-there : goal.slot_of-slot-requires-clause-there
slot_of-slot-requires-clause-there c = leads (slot_get c.self.inside.rows) c.self.inside.slots.entries c.self.inside.births c.self.invariant.kept.indexed c.args.tid (rw (← c.self.view_is) at c.requires)

pub remove-gone-requires : goal.remove-gone-requires
remove-gone-requires c = slot_has (slot_get c.self.inside.rows) c.self.inside.slots.entries c.self.inside.births c.self.invariant.kept.indexed c.args.tid c.slot_of-slot.result (rw (← c.self.view_is) at c.requires) c.slot_of-slot.ensures

pub leave-requires : goal.leave-requires
leave-requires c = own_positive c.self.invariant.kept c.slot_of-slot.result c.remove-gone.result c.remove-gone.ensures.value

pub leave_user-requires : goal.leave_user-requires
leave_user-requires c = record { count = user_positive c.self.invariant.kept c.slot_of-slot.result c.remove-gone.result c.remove-gone.ensures.value }

pub close_up-requires : goal.close_up-requires
close_up-requires c =
    let near = neighbours c.self.invariant.kept c.slot_of-slot.result c.remove-gone.result c.remove-gone.ensures.value (slot_get c.remove-gone.new.self) c.remove-gone.ensures.updates.others c.leave_user.ensures.below in
    record { own_prev = near.0; own_next = near.1; user_prev = near.2; user_next = near.3 }

-- what the steps establish
leaves : (c : After-close_up) → HasLeft (slot_get c.self.inside.rows) c.args.tid c.slot_of-slot.result c.remove-gone.result (slot_get c.close_up.new.slots)
leaves c = record {
  its = (lwp_of-found (slot_get c.self.inside.rows) _ _ c.self.invariant.kept.indexed c.args.tid c.slot_of-slot.result c.remove-gone.result (rw (← c.self.view_is) at c.requires) c.slot_of-slot.ensures c.remove-gone.ensures.value).0;
  within = c.leave_user.ensures.below;
  had = c.remove-gone.ensures.value;
  rest = slot_get c.remove-gone.new.self;
  gone = c.remove-gone.ensures.updates.changed;
  others = c.remove-gone.ensures.updates.others;
  closed = c.close_up.ensures.closed;
}

-- the numbers of the other rows lead to their slots
drops : (c : After-close_up) → (p : ℕ) → nat_eq c.remove-gone.result.row.tid p ≡ false → lookup (nat_eq p) c.swap_remove.new.self.entries ≡ lookup (nat_eq p) c.self.inside.slots.entries
drops c p off = grind (arith, nat_tests, c.swap_remove.ensures.updates.2 p, (leaves c).its, off)

-- what is kept before the list is given back
without : (c : After-close_up) → LwpTableInvariant (slot_get c.close_up.new.slots) c.swap_remove.new.self.entries c.leave.new.heads.entries c.self.inside.births c.leave_user.new.users.items (covering c.leave.new.heads.entries)
without c = LwpTableInvariant-removed c.self.invariant.kept c.args.tid c.slot_of-slot.result c.remove-gone.result _ (leaves c) c.swap_remove.new.self.entries (drops c) c.leave.new.heads.entries c.leave.ensures.ends (λ p l told. told) _ c.leave_user.ensures.ends

pub give_back-requires : goal.give_back-requires
give_back-requires c = (without (goal.at.give_back-requires c).After-close_up).indexed.listed

pub invariant_of-self : goal.invariant_of-self
invariant_of-self c =
    let at = (goal.at.invariant_of-self c).After-close_up in
    record {
      kept = LwpTableInvariant-given_back (without at) c.remove-gone.result.row.pid c.give_back.result c.give_back.new.heads.entries c.give_back.ensures.ends c.give_back.ensures.empty;
      named = λ all.
          AreNamed-given_back (without at) c.remove-gone.result.row.pid c.give_back.result c.give_back.new.heads.entries c.give_back.ensures.ends c.give_back.ensures.empty c.give_back.ensures.unawaited
          (AreNamed-removed c.self.invariant.kept c.args.tid c.slot_of-slot.result c.remove-gone.result _ (leaves at) c.swap_remove.new.self.entries (drops at) c.leave.new.heads.entries c.leave.ensures.ends (λ p l told. told) (c.self.invariant.named all));
    }

pub returns-clause-rows : goal.returns-clause-rows
returns-clause-rows c = let at = (goal.at.returns-clause-rows c).After-close_up in rw (← c.self.view_is) (rows-removed c.self.invariant.kept c.args.tid c.slot_of-slot.result c.remove-gone.result _ (leaves at) c.swap_remove.new.self.entries (drops at))
