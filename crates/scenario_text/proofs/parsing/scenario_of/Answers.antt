use Rattle.scenario_text.proofs.CommonNames.{rules, sym, ◌∙◌, Plan}
use Rattle.scenario_text.proofs.Plans.{yields_fault, steps_fail}
use Rattle.scenario_text.proofs.parsing.scenario_of.Goals as goal

pub returns-in_err-steps-clause-yields : goal.returns-in_err-steps-clause-yields
returns-in_err-steps-clause-yields c = λ ms h.
    let it = yields_fault {X = Plan} (λ s. s) _ _ (steps_fail _ _ _ _ _ _ _ c.in_err-steps.field-0.0 h c.in-Ok.is (sym c.head_settings.ensures ∙ c.in-Ok-head_settings.is) c.bounded_steps.ensures.many c.bounded_steps.ensures.few c.in_err-steps.was) in
    search (rules, it)
