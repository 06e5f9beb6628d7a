-- The kinds of decisions, with their names and numbers.
use Rattle.std.specs.Prelude.{ℕ, ◌==◌, List, [], ◌∷◌, Option, find, codes}
use Rattle.std.specs.Str.{bytes_eq}
use Rattle.stop_handlers.specs.declared.{Decision.Decision, DecisionKind.DecisionKind}

abbrev pub kind_of_decision : Decision → DecisionKind
kind_of_decision Decision.Decline = DecisionKind.Decline
kind_of_decision Decision.Leave = DecisionKind.Leave
kind_of_decision (Decision.Continue s) = DecisionKind.Continue
kind_of_decision (Decision.Detach s) = DecisionKind.Detach
kind_of_decision Decision.Kill = DecisionKind.Kill

-- the kinds of decisions
abbrev pub decision_kinds : List DecisionKind
decision_kinds = DecisionKind.Decline ∷ DecisionKind.Leave ∷ DecisionKind.Continue ∷ DecisionKind.Detach ∷
    DecisionKind.Kill ∷ []

abbrev pub decision_name : DecisionKind → List ℕ
decision_name DecisionKind.Decline = codes "decline"
decision_name DecisionKind.Leave = codes "leave"
decision_name DecisionKind.Continue = codes "continue"
decision_name DecisionKind.Detach = codes "detach"
decision_name DecisionKind.Kill = codes "kill"

abbrev pub decision_named : List ℕ → Option DecisionKind
decision_named text = find (λ x. bytes_eq text (decision_name x)) decision_kinds

abbrev pub decision_number : DecisionKind → ℕ
decision_number DecisionKind.Decline = 0
decision_number DecisionKind.Leave = 1
decision_number DecisionKind.Continue = 2
decision_number DecisionKind.Detach = 3
decision_number DecisionKind.Kill = 4

abbrev pub decision_numbered : ℕ → Option DecisionKind
decision_numbered n = find (λ x. n == decision_number x) decision_kinds
