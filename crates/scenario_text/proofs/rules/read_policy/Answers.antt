use Rattle.scenario_text.proofs.CommonNames.{refl, ap, ◌∙◌, arith, item, pushed, rules_taken}
use Rattle.scenario_text.proofs.{Lists.none_taken, Lists.one_taken, Lists.passed, ReadLoops.first_item, ReadLoops.more_items}
use Rattle.scenario_text.proofs.rules.read_policy.Goals as goal

pub items-init : goal.items-init
items-init c = ((λ ds. ds), first_item _ _, none_taken _ _ _ _ c.none-list.ensures.count c.none-list.ensures.taken)

pub items-preserved-then-list-lt16 : goal.items-preserved-then-list-lt16
items-preserved-then-list-lt16 c =
    let l = c.items in
    let was = c.in_ok-rule.ensures.rule in (
      (λ ds. l.invariant.0 (item was.0 ds)),
      more_items _ _ _ _ l.invariant.1 _ _ was.0 (grind arith) was.1 c.in_ok-rule.ensures.shorter,
      one_taken _ _ _ _ _ l.invariant.2 _ _ was.0 _ (omega arith) c.push.ensures.count (c.push.ensures.taken ∙ ap (pushed (rules_taken l.list)) was.2) (λ ds. refl),
    )

pub items-preserved : goal.items-preserved
items-preserved c =
    let l = c.items in
    let was = c.in_ok-pass_value.ensures.ok in (
      (λ ds. l.invariant.0 (item was.0 ds)),
      more_items _ _ _ _ l.invariant.1 _ _ was.0 (grind arith) was.1 c.in_ok-pass_value.ensures.shorter,
      passed _ _ _ _ _ l.invariant.2 _ _ was.0 (omega arith) refl,
    )
