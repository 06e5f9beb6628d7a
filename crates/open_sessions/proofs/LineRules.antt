-- The rules of a policy in a line.
use Rattle.serde_json.specs.Data as datum
use Rattle.std.proofs.Common.{◌≡◌, ℕ, ◌+◌, ◌≤◌, Bool, true, false, cond, List, [], ◌∷◌, ◌++◌, map, length, Option, Some, None, refl, ◌∙◌, arith}
use Rattle.std.{specs.Prelude.{Ok, codes, ◌==◌}, proofs.lemmas.{Bool.{eqb-true, le-ltb, true≢false}, Bool.Decides.nat_tests}}
use Rattle.json.specs.{Json.string, Value.items_of}
use Rattle.serde_json.specs.{Data.Data, Events.items_len}
use Rattle.event_masks.specs.{Names.stop_table, Names.names_of}
use Rattle.stop_handlers.specs.{Decisions.{decision_name, kind_of_decision}, declared.{Decision.Decision, Rule.Rule}}
use Rattle.stop_handlers.specs.declared.Decision.TheVariants as decision
use Rattle.scenario_text.specs.{Fields.{each, atom_of, flags_of}, Rules.{rule_of, rule_from, rules_of, some_signal, pass_in}}
use Rattle.reply_json.specs.Objects.{Member, array, object_of, natural, strings_of}
use Rattle.open_sessions.specs.{Flat.passed, StepLines.{AllRules, HasPass, IsOptional, IsRule, decision_keys, flags_key, rule_keys, signal_key}}
use Rattle.open_sessions.proofs.{LineTexts.{AllMembers, AllRead, IsRead, is_name, array_read, items_in, members_append, natural_read, object_in, object_read, string_read}, LineSets.{flags_of_names, names_data, names_read}}

abbrev number : ℕ → Data
number n = datum.number (datum.unsigned n)

signal_is : (s : ℕ) → (1 ≤ s) × (s ≤ 31) → some_signal (atom_of (number s)) ≡ Ok (Some s)
signal_is s signal = grind (arith, nat_tests)

pass_is : (s : ℕ) → s ≤ 31 → pass_in (atom_of (number s)) ≡ Ok s
pass_is s small = grind (arith, nat_tests)

-- ---- the keys of a rule, and their values

abbrev flags_by : Bool → ℕ → List Member
flags_by none flags = cond none [] ((codes "flags", strings_of (names_of stop_table flags)) ∷ [])

abbrev pass_by : Bool → ℕ → List Member
pass_by none signal = cond none [] ((codes "pass", natural signal) ∷ [])

abbrev signal_values : Option ℕ → List Data
signal_values None = []
signal_values (Some s) = number s ∷ []

abbrev flags_values : Bool → Data → List Data
flags_values none names = cond none [] (names ∷ [])

abbrev pass_values : Bool → ℕ → List Data
pass_values none signal = cond none [] (number signal ∷ [])

abbrev decision_values : Bool → Decision → List Data
decision_values none d = datum.string (decision_name (kind_of_decision d)) ∷ pass_values none (passed d)

abbrev pub values_by : Bool → Bool → Option ℕ → Data → Decision → List Data
values_by zero none signal names d = signal_values signal ++ (flags_values zero names ++ decision_values none d)

abbrev pub keys_by : Bool → Bool → Option ℕ → ℕ → Decision → List Member
keys_by zero none signal flags d = signal_key signal ++ (flags_by zero flags ++ ((codes "decision", string (decision_name (kind_of_decision d))) ∷ pass_by none (passed d)))

signal_read : (signal : Option ℕ) → IsOptional signal → AllMembers 1 (signal_key signal) (signal_values signal)
unfolding signal_key
signal_read None h = tt
signal_read (Some s) h = (refl, natural_read 1 s (omega arith), tt)

flags_read : (zero : Bool) (flags : ℕ) → AllMembers 1 (flags_by zero flags) (flags_values zero (names_data stop_table flags))
flags_read true flags = tt
flags_read false flags = (refl, names_read 0 stop_table flags refl, tt)

pass_read : (none : Bool) (signal : ℕ) → signal ≤ 31 → AllMembers 1 (pass_by none signal) (pass_values none signal)
pass_read true signal small = tt
pass_read false signal small = (refl, natural_read 1 signal (omega arith), tt)

passed_small : (d : Decision) → HasPass d → passed d ≤ 31
passed_small decision.Decline h = omega arith
passed_small decision.Leave h = omega arith
passed_small decision.Kill h = omega arith
passed_small (decision.Continue s) h = h
passed_small (decision.Detach s) h = h

decision_ascii : (d : Decision) → is_name (decision_name (kind_of_decision d)) ≡ true
decision_ascii decision.Decline = refl
decision_ascii decision.Leave = refl
decision_ascii decision.Kill = refl
decision_ascii (decision.Continue s) = refl
decision_ascii (decision.Detach s) = refl

keys_read : (zero none : Bool) (signal : Option ℕ) (flags : ℕ) (d : Decision) → IsOptional signal → HasPass d → AllMembers 1 (keys_by zero none signal flags d) (values_by zero none signal (names_data stop_table flags) d)
keys_read zero none signal flags d good pass =
    members_append 1 (signal_key signal) _ (signal_values signal) _ (signal_read signal good)
    (members_append 1 (flags_by zero flags) _ (flags_values zero (names_data stop_table flags)) _ (flags_read zero flags)
    (refl, string_read 1 (decision_name (kind_of_decision d)) (decision_ascii d), pass_read none (passed d) (passed_small d pass)))

-- ---- the rule that the values are

abbrev rule : Option ℕ → ℕ → Decision → Rule
rule signal flags d = record { signal = signal; flags = record { 0 = flags }; decision = d }

values_are : (zero none : Bool) (signal : Option ℕ) (flags : ℕ) (names : Data) (d : Decision) → (flags == 0) ≡ zero → (passed d == 0) ≡ none → IsOptional signal → HasPass d
    → flags_of names ≡ Ok (record { 0 = flags }) → rule_of (object_in (keys_by zero none signal flags d) (values_by zero none signal names d)) ≡ Ok (rule signal flags d)
unfolding rule_from signal_key
values_are zero false signal flags names decision.Decline e p good pass known = absurd (true≢false p)
values_are zero false signal flags names decision.Leave e p good pass known = absurd (true≢false p)
values_are zero false signal flags names decision.Kill e p good pass known = absurd (true≢false p)
values_are true true None flags names decision.Decline e p good pass known = rw (eqb-true flags 0 e) refl
values_are true true None flags names decision.Leave e p good pass known = rw (eqb-true flags 0 e) refl
values_are true true None flags names decision.Kill e p good pass known = rw (eqb-true flags 0 e) refl
values_are true true None flags names (decision.Continue n) e p good pass known = rw (eqb-true flags 0 e, eqb-true n 0 p) refl
values_are true false None flags names (decision.Continue n) e p good pass known = rw (eqb-true flags 0 e, pass_is n pass) refl
values_are true true None flags names (decision.Detach n) e p good pass known = rw (eqb-true flags 0 e, eqb-true n 0 p) refl
values_are true false None flags names (decision.Detach n) e p good pass known = rw (eqb-true flags 0 e, pass_is n pass) refl
values_are false true None flags names decision.Decline e p good pass known = rw (known) refl
values_are false true None flags names decision.Leave e p good pass known = rw (known) refl
values_are false true None flags names decision.Kill e p good pass known = rw (known) refl
values_are false true None flags names (decision.Continue n) e p good pass known = rw (known, eqb-true n 0 p) refl
values_are false false None flags names (decision.Continue n) e p good pass known = rw (known, pass_is n pass) refl
values_are false true None flags names (decision.Detach n) e p good pass known = rw (known, eqb-true n 0 p) refl
values_are false false None flags names (decision.Detach n) e p good pass known = rw (known, pass_is n pass) refl
values_are true true (Some s) flags names decision.Decline e p good pass known = rw (signal_is s good, eqb-true flags 0 e) refl
values_are true true (Some s) flags names decision.Leave e p good pass known = rw (signal_is s good, eqb-true flags 0 e) refl
values_are true true (Some s) flags names decision.Kill e p good pass known = rw (signal_is s good, eqb-true flags 0 e) refl
values_are true true (Some s) flags names (decision.Continue n) e p good pass known = rw (signal_is s good, eqb-true flags 0 e, eqb-true n 0 p) refl
values_are true false (Some s) flags names (decision.Continue n) e p good pass known = rw (signal_is s good, eqb-true flags 0 e, pass_is n pass) refl
values_are true true (Some s) flags names (decision.Detach n) e p good pass known = rw (signal_is s good, eqb-true flags 0 e, eqb-true n 0 p) refl
values_are true false (Some s) flags names (decision.Detach n) e p good pass known = rw (signal_is s good, eqb-true flags 0 e, pass_is n pass) refl
values_are false true (Some s) flags names decision.Decline e p good pass known = rw (signal_is s good, known) refl
values_are false true (Some s) flags names decision.Leave e p good pass known = rw (signal_is s good, known) refl
values_are false true (Some s) flags names decision.Kill e p good pass known = rw (signal_is s good, known) refl
values_are false true (Some s) flags names (decision.Continue n) e p good pass known = rw (signal_is s good, known, eqb-true n 0 p) refl
values_are false false (Some s) flags names (decision.Continue n) e p good pass known = rw (signal_is s good, known, pass_is n pass) refl
values_are false true (Some s) flags names (decision.Detach n) e p good pass known = rw (signal_is s good, known, eqb-true n 0 p) refl
values_are false false (Some s) flags names (decision.Detach n) e p good pass known = rw (signal_is s good, known, pass_is n pass) refl

abbrev values_of : Rule → List Data
values_of r = values_by (r.flags.0 == 0) (passed r.decision == 0) r.signal (names_data stop_table r.flags.0) r.decision

abbrev pub rule_data : Rule → Data
rule_data r = object_in (rule_keys r) (values_of r)

pub rule_read : (r : Rule) → IsRule r → IsRead 2 (object_of (rule_keys r)) (rule_data r)
unfolding rule_keys flags_key decision_keys
rule_read r is = object_read 1 (rule_keys r) (values_of r) (keys_read (r.flags.0 == 0) (passed r.decision == 0) r.signal r.flags.0 r.decision is.signal is.pass)

rule_is : (r : Rule) → IsRule r → rule_of (rule_data r) ≡ Ok r
unfolding rule_keys flags_key decision_keys
rule_is r is = values_are (r.flags.0 == 0) (passed r.decision == 0) r.signal r.flags.0 (names_data stop_table r.flags.0) r.decision refl refl is.signal is.pass (flags_of_names r.flags.0 is.flags)

-- ---- policies

abbrev pub policy_data : List Rule → Data
policy_data policy = datum.array (items_in (map (λ r. rule_data r) policy))

all_read : (policy : List Rule) → AllRules policy → AllRead 2 (map (λ r. object_of (rule_keys r)) policy) (map (λ r. rule_data r) policy)
all_read [] all = tt
all_read (r ∷ rs) all = (rule_read r all.0, all_read rs all.1)

each_is : (n : ℕ) (policy : List Rule) → AllRules policy → each (λ _ d. rule_of d) n (items_in (map (λ r. rule_data r) policy)) ≡ Ok policy
each_is n [] all = refl
each_is n (r ∷ rs) all = rw (rule_is r all.0, each_is (n + 1) rs all.1) refl

length_items : (ds : List Data) → items_len (items_in ds) ≡ length ds
length_items [] = refl
length_items (d ∷ ds) = grind (arith, length_items ds)

length_rules : (policy : List Rule) → length (map (λ r. rule_data r) policy) ≡ length policy
length_rules [] = refl
length_rules (r ∷ rs) = grind (arith, length_rules rs)

pub policy_read : (policy : List Rule) → AllRules policy → IsRead 3 (array (items_of (map (λ r. object_of (rule_keys r)) policy))) (policy_data policy)
policy_read policy all = array_read 2 (map (λ r. object_of (rule_keys r)) policy) (map (λ r. rule_data r) policy) (all_read policy all)

pub policy_is : (policy : List Rule) → length policy ≤ 16 → AllRules policy → rules_of (policy_data policy) ≡ Ok policy
policy_is policy few all =
    let size : items_len (items_in (map (λ r. rule_data r) policy)) ≡ length policy = length_items (map (λ r. rule_data r) policy) ∙ length_rules policy in
    rw (size, le-ltb 16 (length policy) few, each_is 0 policy all) refl
