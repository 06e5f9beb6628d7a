use Rattle.lwp_table.proofs.CommonNames.{None, ℕ, ◌≡◌, ap, sym, subst, LwpTableInvariant, covering, slice_index_or}
use Rattle.slab.specs.Slab.{get as slot_get}
use Rattle.lwp_table.proofs.KeptLemmas.{LwpTableInvariant-none}
use Rattle.lwp_table.proofs.table.LwpTable.empty.Goals as goal

pub invariant_of-result : goal.invariant_of-result
invariant_of-result c =
    let none : (s : ℕ) → slot_get c.new.result s ≡ None = λ s. ap (λ xs. slice_index_or xs s None) c.new.ensures.empty in
    let empty = LwpTableInvariant-none (slot_get c.new.result) c.with_hasher.result.entries c.with_hasher-2.result.entries none c.with_hasher.ensures.empty c.with_hasher-2.ensures.empty in
    record { kept = subst (λ us. LwpTableInvariant (slot_get c.new.result) c.with_hasher.result.entries c.with_hasher-2.result.entries 0 us (covering c.with_hasher-2.result.entries)) (sym c.new-5.ensures) empty; named = λ all s slot child there. absurd (cc (there, none s)) }
