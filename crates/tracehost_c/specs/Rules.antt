-- The rules of stop handlers by their numbers.
use Rattle.std.specs.{Prelude.{ℕ, ◌==◌, ltb, List, [], ◌∷◌, length, Option, Some, None, option_map, option_and_then, if◌then◌else◌}, Option.{option_zip}}
use Rattle.{stop_handlers.specs.{Decisions.decision_numbered, declared.Decision.Decision, declared.DecisionKind.DecisionKind, declared.Rule.Rule}, tracehost_c.specs.declared.rules.FlatRule.FlatRule}

-- the signal that is passed on; 0 is none
abbrev pub pass_numbered : ℕ → Option ℕ
pass_numbered n = if ltb n 32 then Some n else None

-- a decision of this kind, with the signal that it passes on
abbrev pub decision_with : ℕ → DecisionKind → Option Decision
decision_with pass DecisionKind.Decline = Some Decision.Decline
decision_with pass DecisionKind.Leave = Some Decision.Leave
decision_with pass DecisionKind.Continue = option_map Decision.Continue (pass_numbered pass)
decision_with pass DecisionKind.Detach = option_map Decision.Detach (pass_numbered pass)
decision_with pass DecisionKind.Kill = Some Decision.Kill

-- a decision: its kind's number, and the signal that it passes on
abbrev pub decision_of : ℕ → ℕ → Option Decision
decision_of n pass = option_and_then (decision_with pass) (decision_numbered n)

-- the signal that a rule names; 0 is none
abbrev pub signal_numbered : ℕ → Option (Option ℕ)
signal_numbered n = if n == 0 then Some None else (if ltb n 32 then Some (Some n) else None)

-- a rule, if its flags are flags of a stop, which are 1 to 256, and its signals and its decision exist
abbrev pub rule_numbered : FlatRule → Option Rule
rule_numbered r = if ltb r.flags 512
    then option_map (λ p. record { flags = record { 0 = r.flags }; signal = p.0; decision = p.1 })
    (option_zip (signal_numbered r.signal) (decision_of r.decision r.pass))
    else None

-- the values of a list, if each has one
abbrev pub both : {X : Type 0} → Option X → Option (List X) → Option (List X)
both first others = option_map (λ p. p.0 ∷ p.1) (option_zip first others)

abbrev pub rules_numbered : List FlatRule → Option (List Rule)
rules_numbered [] = Some []
rules_numbered (r ∷ rs) = both (rule_numbered r) (rules_numbered rs)

-- a policy of at most 16 rules
abbrev pub policy_numbered : List FlatRule → Option (List Rule)
policy_numbered rules = if ltb 16 (length rules) then None else rules_numbered rules
