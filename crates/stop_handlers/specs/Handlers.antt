-- What a handler's answers satisfy.
use Rattle.std.specs.Prelude.{◌≡◌, List}
use Rattle.stop_handlers.specs.Decide.{decide}
use Rattle.stop_handlers.specs.declared.Rule.{Rule}
use Rattle.stop_handlers.specs.declared.StopView.{StopView}
use Rattle.stop_handlers.specs.declared.Decision.{Decision}

-- each possible answer about a stop is what the rules decide
abbrev pub Obeys : (StopView → Decision → Type 0) → List Rule → Type 0
Obeys gives rules = (view : StopView) (decision : Decision) → gives view decision → decision ≡ decide rules view

-- each decider made for some rules can be asked about every stop, and obeys these rules
abbrev pub MakesObeying : {F : Type 0} → (F → Type 0) → (F → StopView → Decision → Type 0) → (List Rule → F → Type 0) → Type 0
MakesObeying {F} can_ask gives makes = (rules : List Rule) (decider : F) → makes rules decider → can_ask decider × Obeys (gives decider) rules
