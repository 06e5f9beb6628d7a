use Rattle.scenario_text.proofs.CommonNames.{refl, sym, ap, ◌∙◌, arith, item, ◌>>=◌, gather}
use Rattle.scenario_text.proofs.ReadLoops.{first_item, more_items, atom_is}
use Rattle.scenario_text.proofs.arrays.gather.Goals as goal

pub items-init : goal.items-init
items-init g c = ((λ ds. ds), first_item _ _, λ ds. refl)

pub items-preserved-in-Ok : goal.items-preserved-in-Ok
items-preserved-in-Ok g c =
    let l = c.items in
    let added = g.S.Gathered.added in
    let was = c.in_ok-item.ensures.ok in (
      (λ ds. l.invariant.0 (item was.0 ds)),
      more_items _ _ _ _ l.invariant.1 _ _ was.0 (grind arith) was.1 c.in_ok-item.ensures.shorter,
      λ ds. l.invariant.2 (item was.0 ds) ∙ ap (λ r. r >>= (λ s. gather added s (item was.0 ds))) c.in-Ok.is
          ∙ ap (λ r. r >>= (λ s. gather added s ds)) (ap (added c.in-Ok.so_far) (sym (atom_is _ was.0 was.2)) ∙ sym c.with_item-set.ensures),
    )

pub items-preserved : goal.items-preserved
items-preserved g c =
    let l = c.items in
    let was = c.in_ok-item.ensures.ok in (
      (λ ds. l.invariant.0 (item was.0 ds)),
      more_items _ _ _ _ l.invariant.1 _ _ was.0 (grind arith) was.1 c.in_ok-item.ensures.shorter,
      λ ds. l.invariant.2 (item was.0 ds) ∙ ap (λ r. r >>= (λ s. gather g.S.Gathered.added s (item was.0 ds))) c.in-Err.is,
    )
