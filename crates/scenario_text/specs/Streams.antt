-- What a reader's next tokens come to: values, the steps and the members of a scenario while they are read, and a text
-- that is one value.
use Rattle.std.specs.Prelude.{◌≡◌, ◌<◌, ◌≤◌, ◌∷◌, ◌++◌}
use Rattle.scenario_text.specs.CommonNames.{ℕ, List, Option, Some, None, Result, Ok, Err, ⊤, ℤ, pos, [], Bool, false, length, codes, take, option_map, bytes_eq, value, Token, Invalid, read_items}
use Rattle.scenario_text.specs.CommonNames.{read_members, members_among, Data, Items, Members, of_json, converted, items_len, get_member, UserStep, Rule, Fields, Key, RuleFields, Fault, KeyError, Listed}
use Rattle.scenario_text.specs.CommonNames.{ScenarioKey, RuleList, Stop, max_steps}
use Rattle.scenario_text.specs.Fields.{Atom, atom_of, integer, word, name_in, items_of, required, optional, options_of, mask_of, set_of, flags_of, ◌>>=◌}
use Rattle.scenario_text.specs.{Keys.◌∪◌, Keys.key_set, Steps.user_in, Scenarios.at_step, Scenarios.steps_from}
use Rattle.scenario_text.specs.CommonNames.{op_named, disposition_named, act_named, call_named, request_named, decision_named}
use Rattle.scenario_text.specs.{Rules.some_signal, Rules.pass_in, Rules.rules_of}
use Rattle.scenario_text.specs.declared.keys.Key.TheVariants as key
use Rattle.scenario_text.specs.declared.keys.TheConstants.Keys as keys
use Rattle.scenario_text.specs.declared.parsing.ScenarioKey.TheVariants as scenario_key
use Rattle.scenario_text.specs.declared.stop.Stop.TheVariants as stop

-- the result fits the data that was read; an error means that none was
abbrev pub Fits : {X D : Type 0} → (X → D → Type 0) → Option (D × List Token) → Result X Invalid → List Token → Type 0
Fits {D = D} P read (Ok x) left = (d : D) × (read ≡ Some (d, left)) × P x d
Fits P read (Err e) left = read ≡ None

-- the next value
abbrev pub Reads : {X : Type 0} → (X → Data → Type 0) → ℕ → Result X Invalid → List Token → List Token → Type 0
Reads P depth r ts left = Fits P (converted of_json (value depth ts)) r left

-- the items of an array, behind its bracket
abbrev pub ReadsItems : {X : Type 0} → (X → Items → Type 0) → ℕ → Result X Invalid → List Token → List Token → Type 0
ReadsItems P depth r ts left = Fits P (read_items depth ts) r left

-- the members of an object, behind its brace
abbrev pub ReadsMembers : {X : Type 0} → (X → Members → Type 0) → ℕ → Result X Invalid → List Token → List Token → Type 0
ReadsMembers P depth r ts left = Fits P (read_members depth ts) r left

-- the result fits the data that was read; nothing was read, or memory ran out
abbrev pub Tries : {X D : Type 0} → (X → D → Type 0) → Option (D × List Token) → Result X Stop → List Token → Type 0
Tries {D = D} P read (Ok x) left = (d : D) × (read ≡ Some (d, left)) × P x d
Tries P read (Err stop.Invalid) left = read ≡ None
Tries P read (Err stop.Memory) left = ⊤

-- the result fits the value of the text; the text has no value, or memory ran out
abbrev pub TriesText : {X : Type 0} → (X → Data → Type 0) → Option Data → Result X Stop → Type 0
TriesText P read (Ok x) = (d : Data) × (read ≡ Some d) × P x d
TriesText P read (Err stop.Invalid) = read ≡ None
TriesText P read (Err stop.Memory) = ⊤

-- ---- the steps and the members of a scenario

-- one more result, unless an earlier one failed
abbrev pub pushed : {X E : Type 0} → Result (List X) E → Result X E → Result (List X) E
pushed list one = list >>= (λ xs. one >>= (λ x. Ok (xs ++ x ∷ [])))

-- the value, unless there is a flaw
abbrev unless : {X E : Type 0} → Option E → X → Result X E
unless None x = Ok x
unless (Some flaw) x = Err flaw

-- the steps so far, or the fault of the first that has one
abbrev pub taken : Listed → Result (List UserStep) Fault
taken l = unless (option_map (λ flaw. at_step flaw.0 flaw.1) l.flaw) l.steps

-- the list is that of an array with these items; of more than `max_steps` items it only says so
pub record IsListOf (l : Listed) (ds : Items) : Type 0 where
  pub few : l.count ≤ max_steps → (items_len ds ≤ max_steps) × (taken l ≡ steps_from 1 ds)
  pub many : max_steps < l.count → max_steps < items_len ds
  pub short : length l.steps ≤ l.count

-- the list is that of the array, or the value is no array
abbrev pub StepsAre : Result Listed KeyError → Result Items KeyError → Type 0
StepsAre (Err flaw) r = r ≡ Err flaw
StepsAre (Ok l) r = (ds : Items) × (r ≡ Ok ds) × IsListOf l ds

-- the name of a key of a scenario, and of any other key
abbrev pub IsNamed : ScenarioKey → List ℕ → Type 0
IsNamed scenario_key.Steps name = name ≡ codes "steps"
IsNamed scenario_key.KillOnDebuggerExit name = name ≡ codes "kill_on_debugger_exit"
IsNamed scenario_key.Other name = (bytes_eq name (codes "steps") ≡ false) × (bytes_eq name (codes "kill_on_debugger_exit") ≡ false)

-- what was read of a scenario's members
pub record AreRead (steps : Result Listed KeyError) (kill : Result ℤ KeyError) (alone : Bool) (ms : Members) : Type 0 where
  pub steps_are : StepsAre steps (required items_of (get_member (codes "steps") ms))
  pub kill_is : kill ≡ optional (pos 1) (λ d. integer (atom_of d)) (get_member (codes "kill_on_debugger_exit") ms)
  pub alone_is : alone ≡ members_among (codes "steps" ∷ codes "kill_on_debugger_exit" ∷ []) ms

-- the rules so far, or the flaw of the first that has one
abbrev pub rules_taken : RuleList → Result (List Rule) KeyError
rules_taken l = unless l.flaw (take l.count l.rules)

-- ---- the keys of steps and rules

-- what the keys of a step say, once a key has an atom or a value
-- tools/format keys
abbrev pub with_atom : Key → Atom → Fields → Fields
with_atom key.User a f = record f { user = user_in a }
with_atom key.Op a f = record f { op = name_in op_named a }
with_atom key.Caller a f = record f { caller = word a }
with_atom key.Lwp a f = record f { lwp = word a }
with_atom key.Act a f = record f { act = name_in act_named a }
with_atom key.Which a f = record f { which = integer a }
with_atom key.Request a f = record f { request = name_in request_named a }
with_atom key.Target a f = record f { target = word a }
with_atom key.Data a f = record f { «data» = word a }
with_atom key.Call a f = record f { call = name_in call_named a }
with_atom key.Code a f = record f { code = integer a }
with_atom key.Signal a f = record f { signal = word a }
with_atom key.Action a f = record f { action = name_in disposition_named a }
with_atom k a f = f

-- end

abbrev pub with_value : Key → Data → Fields → Fields
with_value key.Options d f = record f { options = options_of d }
with_value key.Rules d f = record f { rules = rules_of d }
with_value key.Set d f = record f { set = set_of d }
with_value key.Mask d f = record f { mask = mask_of d }
with_value k d f = with_atom k (atom_of d) f

-- the same, once the key with a name has a value
abbrev pub with_named : Option Key → Data → Fields → Fields
with_named None d f = record f { keys = keys.OTHER ∪ f.keys }
with_named (Some k) d f = record (with_value k d f) { keys = key_set k ∪ f.keys }

-- the same of a rule
abbrev pub with_rule_atom : Key → Atom → RuleFields → RuleFields
with_rule_atom key.Signal a f = record f { signal = some_signal a }
with_rule_atom key.Decision a f = record f { decision = name_in decision_named a }
with_rule_atom key.Pass a f = record f { pass = pass_in a }
with_rule_atom k a f = f

abbrev pub with_rule_value : Key → Data → RuleFields → RuleFields
with_rule_value key.Flags d f = record f { flags = flags_of d }
with_rule_value k d f = with_rule_atom k (atom_of d) f

abbrev pub with_named_rule : Option Key → Data → RuleFields → RuleFields
with_named_rule None d f = record f { keys = keys.OTHER ∪ f.keys }
with_named_rule (Some k) d f = record (with_rule_value k d f) { keys = key_set k ∪ f.keys }
