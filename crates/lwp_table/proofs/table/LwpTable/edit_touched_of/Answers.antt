use Rattle.lwp_table.proofs.CommonNames.{◌≡◌, ℕ, sym, ◌∙◌, inl, inr, refl, Some, true, false, meets, covers, RowNode}
use Rattle.slab.specs.Slab.{get as slot_get}
use Rattle.lwp_table.proofs.EditLemmas.{rows-spared, rows-spared_but}
use Rattle.lwp_table.proofs.table.LwpTable.edit_touched_of.Goals as goal

pub returns-in-Some-clause-rows : goal.returns-in-Some-clause-rows
returns-in-Some-clause-rows g c = λ change computes spares.
    let marks = c.ends_of-marks.result.marks in
    let covered : (s : ℕ) (slot : RowNode) → slot_get c.self.inside.rows s ≡ Some slot → slot.row.pid ≡ c.args.pid → covers marks slot.row ≡ true = λ s slot there on. rw (c.ends_of-marks.ensures, ← on) (c.self.invariant.kept.covered s slot there) in
    let apart : meets marks.all c.args.touched.now ≡ false = sym c.meets.ensures ∙ c.if-meets.false in
    c.edit_one.ensures.rows change computes
    ∙ rw (← c.self.view_is) (rows-spared_but (slot_get c.self.inside.rows) c.self.inside.slots.entries c.self.inside.births c.args.pid marks covered c.args.touched.now change spares apart c.in-Some.tid c.in-Some.is)

pub returns-then-meets-2-clause-rows : goal.returns-then-meets-2-clause-rows
returns-then-meets-2-clause-rows g c = λ change computes spares.
    let marks = c.ends_of-marks.result.marks in
    let covered : (s : ℕ) (slot : RowNode) → slot_get c.self.inside.rows s ≡ Some slot → slot.row.pid ≡ c.args.pid → covers marks slot.row ≡ true = λ s slot there on. rw (c.ends_of-marks.ensures, ← on) (c.self.invariant.kept.covered s slot there) in
    let apart : meets marks.all c.args.touched.now ≡ false = sym c.meets.ensures ∙ c.if-meets.false in
    rw (← c.self.view_is) (rows-spared (slot_get c.self.inside.rows) c.self.inside.slots.entries c.self.inside.births c.args.pid marks covered c.args.touched.now change spares apart (λ l. inl (rw c.in_default.is refl)))

pub returns-clause-rows : goal.returns-clause-rows
returns-clause-rows g c = λ change computes spares.
    let marks = c.ends_of-marks.result.marks in
    let covered : (s : ℕ) (slot : RowNode) → slot_get c.self.inside.rows s ≡ Some slot → slot.row.pid ≡ c.args.pid → covers marks slot.row ≡ true = λ s slot there on. rw (c.ends_of-marks.ensures, ← on) (c.self.invariant.kept.covered s slot there) in
    let apart : meets marks.all c.args.touched.now ≡ false = sym c.meets.ensures ∙ c.if-meets.false in
    rw (← c.self.view_is) (rows-spared (slot_get c.self.inside.rows) c.self.inside.slots.entries c.self.inside.births c.args.pid marks covered c.args.touched.now change spares apart (λ l. inr (sym c.meets-else-meets.ensures ∙ c.if-meets-2.false)))
