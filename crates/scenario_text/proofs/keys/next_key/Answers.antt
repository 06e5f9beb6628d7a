use Rattle.scenario_text.proofs.CommonNames.{arith, Some, ap, sym, ◌∙◌, read_key}
use Rattle.scenario_text.proofs.keys.next_key.Goals as goal

pub returns-in-Some : goal.returns-in-Some
returns-in-Some c = (Some c.in-Some.name.now, ap read_key (sym c.if-take.ensures) ∙ grind (arith, c.in_ok-name.ensures.value, c.in-Some.is, c.in-Some.name-is), ap Some c.key_named.ensures)
