use Rattle.lwp_table.proofs.CommonNames.{nat_eq, marked, nat_tests, ◌≡◌, false, Some, sym, cases_Bool, same_Some, ends_at, RowNode, rules, ◌+◌, refl, ap, ◌∙◌, is_some, arith, FnReturnsAt, option_map, Updates-with_value, own_node, covering, IsIndexed}
use Rattle.std.proofs.lemmas.Fn.{says_at}
use Rattle.slab.specs.Slab.{get as slot_get}
use Rattle.lwp_table.proofs.KeptLemmas.{LwpTableInvariant-may, LwpTableInvariant-marked}
use Rattle.lwp_table.proofs.EditLemmas.{left_at, left_in, unsaid, unsaid-less, unsaid-own, editing-first, editing-there, here, old_row, editing-on, seen-on, seen-all, LwpTableInvariant-edited, editing-less}
use Rattle.lwp_table.proofs.EditLemmas.{len-same, rows_of-edited}
use Rattle.lwp_table.proofs.IndexLemmas.{face}
use Rattle.lwp_table.proofs.NamedLemmas.{waiter-same, AreNamed-kept, AreNamed-lists}
use Rattle.lwp_table.proofs.table.LwpTable.edit_of.Goals as goal

pub loop-link-init : goal.loop-link-init
loop-link-init g c = record {
  kept = LwpTableInvariant-may c.self.invariant.kept (unsaid c.args.pid (covering c.self.inside.heads.entries)) (λ s slot there. unsaid-less c.args.pid (covering c.self.inside.heads.entries) slot.row.pid slot.row (c.self.invariant.kept.covered s slot there));
  walk = (
    0,
    editing-first (slot_get c.self.inside.rows) (FnReturnsAt g.F.Fn c.args.edit) c.args.pid c.ends_of-link.result.first
        (rw c.ends_of-link.ensures ((c.self.invariant.kept.own c.args.pid).first_is)),
    λ s slot there on less. absurd (omega (arith, less)),
  );
  named = c.self.invariant.named;
  slots = refl;
  heads = refl;
  users = refl;
  births = refl;
  capacity = refl;
  len = refl;
}

pub index_mut-slot-requires : goal.index_mut-slot-requires
index_mut-slot-requires g c = grind (arith, nat_tests, editing-there)

pub loop-link-smaller : goal.loop-link-smaller
loop-link-smaller g c = search (rules, says_at, old_row, here, editing-on, left_at, left_in, editing-less)

pub loop-link-preserved : goal.loop-link-preserved
loop-link-preserved g c =
    let f = slot_get c.loop-link.self-inside.rows in
    let old = c.index_mut-slot.result.now in
    let new = c.edit-row.result in
    let kept = c.loop-link.invariant.kept in
    let walk = rw c.in-Some.is at c.loop-link.invariant.walk.1 in
    let gave : FnReturnsAt g.F.Fn c.args.edit old.row new = says_at g.F.Fn c.edit-row.ensures refl in
    let there = old_row (slot_get c.self.inside.rows) f (FnReturnsAt g.F.Fn c.args.edit) c.args.pid c.loop-link.invariant.walk.0 c.in-Some.at walk old c.index_mut-slot.ensures.value
    c.self.inside.slots.entries c.self.inside.births c.args.self.now.rows c.self.invariant.kept.indexed (ap (λ v. v.rows) c.self.view_is) in
    let its = c.requires.keeps old.row new there gave in
    let updates = Updates-with_value c.loop-link.self-inside.rows c.in-Some.at (record old { row = new }) (ap is_some c.index_mut-slot.ensures.value) in
    let on = here (slot_get c.self.inside.rows) f (FnReturnsAt g.F.Fn c.args.edit) c.args.pid c.loop-link.invariant.walk.0 c.in-Some.at walk old c.index_mut-slot.ensures.value in
    let next = (kept.own c.args.pid).next_is c.in-Some.at (own_node old) (ap (option_map own_node) c.index_mut-slot.ensures.value) on.0 in
    let same = len-same c.loop-link.self-inside.rows c.in-Some.at old (record old { row = new }) c.index_mut-slot.ensures.value in
    record {
      kept = LwpTableInvariant-edited kept c.in-Some.at old new _ (unsaid-own c.args.pid new.pid (covering c.loop-link.self-inside.heads.entries) new (its.1 ∙ on.0)) c.index_mut-slot.ensures.value its updates.changed updates.others;
      walk = (
        old.born + 1,
        editing-on (slot_get c.self.inside.rows) f (FnReturnsAt g.F.Fn c.args.edit) c.args.pid c.loop-link.invariant.walk.0 c.in-Some.at walk old c.index_mut-slot.ensures.value new _ its.1 gave updates.changed updates.others
            kept.indexed.apart next,
        rw c.gathered-marks.ensures (seen-on (slot_get c.self.inside.rows) f (FnReturnsAt g.F.Fn c.args.edit) c.args.pid c.loop-link.invariant.walk.0 c.in-Some.at walk old c.index_mut-slot.ensures.value new _ its.1 gave updates.changed updates.others
            kept.indexed.apart next c.loop-link.marks c.loop-link.invariant.walk.2),
      );
      named = λ all.
          let before : c.loop-link.unnamed ≡ false = search (rules, cases_Bool) in
          let anew : c.waits_anew-unnamed.result ≡ false = search (rules, cases_Bool) in
          let named = c.loop-link.invariant.named before in
          AreNamed-kept f _ c.loop-link.self-inside.heads.entries c.loop-link.self-inside.heads.entries c.in-Some.at (λ s off. ap (option_map face) (updates.others s off)) (λ p. refl) (λ slot child there waits.
          let is = same_Some (record old { row = new }) slot (sym updates.changed ∙ there) in
          let waited = c.waits_anew-unnamed.ensures anew child (rw (← is) at waits) in
          named c.in-Some.at old child c.index_mut-slot.ensures.value waited ∙ ap (λ n. Some n) (sym its.0 ∙ ap (λ (x : RowNode). x.row.tid) is)) named;
      slots = c.loop-link.invariant.slots;
      heads = c.loop-link.invariant.heads;
      users = c.loop-link.invariant.users;
      births = c.loop-link.invariant.births;
      capacity = c.loop-link.invariant.capacity;
      len = same ∙ c.loop-link.invariant.len;
    }

pub invariant_of-self : goal.invariant_of-self
invariant_of-self g c =
    let walk = rw c.in_default.is at c.loop-link.invariant.walk.1 in
    record {
      kept = LwpTableInvariant-marked c.loop-link.invariant.kept c.args.pid c.loop-link.marks _ c.mark.ensures.ends
          (seen-all (slot_get c.self.inside.rows) (slot_get c.loop-link.self-inside.rows) (FnReturnsAt g.F.Fn c.args.edit) c.args.pid c.loop-link.invariant.walk.0 c.loop-link.marks walk c.loop-link.invariant.walk.2)
          (λ s slot there off. rw off at (c.loop-link.invariant.kept.covered s slot there));
      named = λ all. AreNamed-lists (slot_get c.loop-link.self-inside.rows) c.loop-link.self-inside.heads.entries c.mark.new.heads.entries (λ p. waiter-same (nat_eq c.args.pid p) _ (ends_at c.loop-link.self-inside.heads.entries p) (marked c.loop-link.marks (ends_at c.loop-link.self-inside.heads.entries p)) refl (c.mark.ensures.ends p)) (c.loop-link.invariant.named all);
    }

pub returns-clause-rows : goal.returns-clause-rows
returns-clause-rows g c = λ change computes.
    let seen = ap (λ v. v.rows) c.self.view_is in
    let es = c.self.inside.slots.entries in
    let births = c.self.inside.births in
    let f = slot_get c.loop-link.self-inside.rows in
    let walk = rw c.in_default.is at c.loop-link.invariant.walk.1 in
    let same = ap (λ t. t.entries) c.loop-link.invariant.slots in
    let after : IsIndexed f es births = rw (same, c.loop-link.invariant.births) at c.loop-link.invariant.kept.indexed in
    rw (same, c.loop-link.invariant.births, ← seen)
    (rows_of-edited (slot_get c.self.inside.rows) f es births c.self.invariant.kept.indexed after (FnReturnsAt g.F.Fn c.args.edit) c.args.pid c.loop-link.invariant.walk.0 walk change (rw (← seen) at computes))

pub returns-clause-spare : goal.returns-clause-spare
returns-clause-spare g c = rw (c.loop-link.invariant.capacity, c.loop-link.invariant.len, c.loop-link.invariant.slots, c.mark.ensures.spare, c.loop-link.invariant.heads, c.loop-link.invariant.users, c.loop-link.invariant.births) (ap (λ v. v.spare) c.self.view_is)
