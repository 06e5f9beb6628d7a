use Rattle.scenario_text.proofs.CommonNames.{rules, refl, arith, item}
use Rattle.scenario_text.proofs.{Lists.none_taken, Lists.one_taken, Lists.passed, ReadLoops.first_item, ReadLoops.more_items}
use Rattle.scenario_text.proofs.listing.read_list.Goals as goal

pub items-init : goal.items-init
items-init c = ((λ ds. ds), first_item _ _, none_taken _ _ _ _ c.none-list.ensures.count c.none-list.ensures.taken, record { short = c.none-list.ensures.few; capped = omega arith })

pub items-preserved-in-Continue-1 : goal.items-preserved-in-Continue-1
items-preserved-in-Continue-1 c =
    let l = c.items in
    let was = c.in_ok-add_next.ensures.next in (
      (λ ds. l.invariant.0 (item was.0 ds)),
      more_items _ _ _ _ l.invariant.1 _ _ was.0 (grind arith) was.1 c.in_ok-add_next.ensures.shorter,
      one_taken _ _ _ _ _ l.invariant.2 _ _ was.0 _ (omega arith) c.in_ok-add_next.ensures.count was.2 (λ ds. refl),
      search rules,
    )

pub items-preserved : goal.items-preserved
items-preserved c =
    let l = c.items in
    let was = c.in_ok-pass_value.ensures.ok in (
      (λ ds. l.invariant.0 (item was.0 ds)),
      more_items _ _ _ _ l.invariant.1 _ _ was.0 (grind arith) was.1 c.in_ok-pass_value.ensures.shorter,
      passed _ _ _ _ _ l.invariant.2 _ _ was.0 (omega arith) refl,
      search rules,
    )
