use Rattle.lwp_table.proofs.CommonNames.{ap}
use Rattle.std.proofs.lemmas.Map.Entries.{entries_from_clone}
use Rattle.lwp_table.proofs.CloneLemmas.{slots-same}
use Rattle.lwp_table.proofs.table.LwpTableClone.clone.Goals as goal

pub invariant_of-result : goal.invariant_of-result
invariant_of-result c = rw (slots-same _ _ c.in_ok-clone.ensures.cases, entries_from_clone _ _ (λ x y h. h) (λ x y h. h) _ _ c.in_ok-clone-2.ensures.cases, entries_from_clone _ _ (λ x y h. h) (λ x y h. h) _ _ c.in_ok-clone-4.ensures.cases, c.in_ok-clone-5.ensures.cases) c.self.invariant

pub returns : goal.returns
returns c = record {
  cases = rw (slots-same _ _ c.in_ok-clone.ensures.cases, entries_from_clone _ _ (λ x y h. h) (λ x y h. h) _ _ c.in_ok-clone-2.ensures.cases) (ap (λ t. t.rows) c.self.view_is);
}
