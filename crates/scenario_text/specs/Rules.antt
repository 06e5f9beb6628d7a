-- The rules of a policy, from their JSON values.
use Rattle.std.specs.Prelude.{if◌then◌else◌}
use Rattle.scenario_text.specs.CommonNames.{ℕ, List, Option, Some, None, Result, Ok, Err, codes, nat_lt, Data, Items, Members, object, items_len, get_member, no_flags, Rule, Decision, KeyError, Shape}
use Rattle.scenario_text.specs.CommonNames.{Keys, SIGNAL, FLAGS, DECISION, PASS, DecisionKind, RuleFields, decision_named}
use Rattle.scenario_text.specs.Fields.{◌>>=◌, Atom, atom_of, number_within, name_in, items_of, optional, required, each, signal_in, flags_of}
use Rattle.scenario_text.specs.{declared.fields.KeyError.TheVariants.TooManyRules, Keys.◌∪◌, Keys.keys_in, Keys.with_only}
use Rattle.stop_handlers.specs.declared.Decision.TheVariants as decision
use Rattle.stop_handlers.specs.declared.DecisionKind.TheVariants as kind

abbrev pub some_signal : Atom → Result (Option ℕ) KeyError
some_signal a = signal_in a >>= (λ signal. Ok (Some signal))

-- the signal with which a process is resumed, 0 for none
abbrev pub pass_in : Atom → Result ℕ KeyError
pass_in a = number_within 0 31 a

-- what the keys of a rule say, by the values that they have
abbrev pub rule_fields_by : (List ℕ → Option Data) → Keys → RuleFields
rule_fields_by at keys = record {
  keys = keys;
  signal = optional None (λ d. some_signal (atom_of d)) (at (codes "signal"));
  flags = optional no_flags flags_of (at (codes "flags"));
  decision = required (λ d. name_in decision_named (atom_of d)) (at (codes "decision"));
  pass = optional 0 (λ d. pass_in (atom_of d)) (at (codes "pass"));
}

abbrev pub rule_fields_in : Members → RuleFields
rule_fields_in ms = rule_fields_by (λ k. get_member k ms) (keys_in ms)

abbrev pub decision_of : DecisionKind → RuleFields → Result Decision KeyError
decision_of kind.Decline f = Ok decision.Decline
decision_of kind.Leave f = Ok decision.Leave
decision_of kind.Kill f = Ok decision.Kill
decision_of kind.Continue f = f.pass >>= (λ n. Ok (decision.Continue n))
decision_of kind.Detach f = f.pass >>= (λ n. Ok (decision.Detach n))

-- the keys of a rule with such a decision
abbrev pub rule_keys : DecisionKind → Keys
rule_keys kind.Continue = SIGNAL ∪ FLAGS ∪ DECISION ∪ PASS
rule_keys kind.Detach = SIGNAL ∪ FLAGS ∪ DECISION ∪ PASS
rule_keys k = SIGNAL ∪ FLAGS ∪ DECISION

unfoldable pub rule_from : RuleFields → Result Rule KeyError
rule_from f = do
  signal ← f.signal
  flags ← f.flags
  kind ← f.decision
  decision ← decision_of kind f
  with_only (rule_keys kind) f.keys (record { signal = signal; flags = flags; decision = decision })

abbrev pub rule_of : Data → Result Rule KeyError
rule_of (object ms) = rule_from (rule_fields_in ms)
rule_of d = Err Shape

-- at most 16 rules
abbrev pub policy_of : Items → Result (List Rule) KeyError
policy_of items = if nat_lt 16 (items_len items) then Err TooManyRules else each (λ _ d. rule_of d) 0 items

abbrev pub rules_of : Data → Result (List Rule) KeyError
rules_of d = items_of d >>= policy_of
