-- The scenario or the fault of some bytes.
use Rattle.std.specs.Prelude.{◌≡◌, ◌⊎◌, ◌<◌, ◌≤◌, ◌==◌, ◌∷◌, ◌++◌, if◌then◌else◌}
use Rattle.scenario_text.specs.CommonNames.{⊤, ℕ, Bool, nat_lt, ℤ, pos, List, [], length, Option, Some, None, Result, Ok, Err, codes, IsUtf8, Consumes, members_among, Data, Items, object, items_len}
use Rattle.scenario_text.specs.CommonNames.{get_member, read, Settings, UserStep, Fault, Read, TooLong, BadJson, TooManySteps, BadShape, BadUser, BadName, BadNumber, TooManyRules, Memory, KeyError, Plan}
use Rattle.scenario_text.specs.CommonNames.{max_steps}
use Rattle.scenario_text.specs.{Fields.◌>>=◌, Fields.atom_of, Fields.integer, Fields.items_of, Fields.required, Fields.optional, Fields.each, Fields.within, Fields.seen, Steps.step_of}
use Rattle.scenario_text.specs.declared.fields.KeyError.TheVariants as flaws

-- the flaw of the step with this number, as a fault
abbrev pub at_step : ℕ → KeyError → Fault
at_step n flaws.Shape = BadShape n
at_step n flaws.User = BadUser n
at_step n flaws.Name = BadName n
at_step n flaws.Number = BadNumber n
at_step n flaws.TooManyRules = TooManyRules n

abbrev pub numbered : {X : Type 0} → ℕ → Result X KeyError → Result X Fault
numbered n (Ok x) = Ok x
numbered n (Err flaw) = Err (at_step n flaw)

abbrev pub steps_from : ℕ → Items → Result (List UserStep) Fault
steps_from n ds = each (λ k d. numbered k (step_of d)) n ds

-- the value of `kill_on_debugger_exit`, 0 or 1
abbrev pub settings_of : ℤ → Result Settings KeyError
settings_of z = within 0 1 flaws.Number z >>= (λ n. Ok (record { kill_on_debugger_exit = n == 1 }))

-- the settings, if there are no other keys
abbrev pub head_settings : Result ℤ KeyError → Bool → Result Settings KeyError
head_settings kill is_alone = kill >>= (λ z. if is_alone then settings_of z else Err flaws.Shape)

-- the array of steps, and the settings; there are no other keys
unfoldable pub head_of : Data → Result (Items × Settings) KeyError
head_of (object ms) = do
  items ← required items_of (get_member (codes "steps") ms)
  kill ← optional (pos 1) (λ d. integer (atom_of d)) (get_member (codes "kill_on_debugger_exit") ms)
  settings ← if members_among (codes "steps" ∷ codes "kill_on_debugger_exit" ∷ []) ms then settings_of kill else Err flaws.Shape
  Ok (items, settings)
head_of d = Err flaws.Shape

-- the scenario that a JSON value is, or its first fault
unfoldable pub plan_of : Data → Result Plan Fault
plan_of d = do
  head ← numbered 0 (head_of d)
  steps ← if nat_lt max_steps (items_len head.0) then Err TooManySteps else steps_from 1 head.0
  Ok (record { settings = head.1; steps = steps })

-- ---- bytes

abbrev pub max_bytes : ℕ
max_bytes = 4194304

-- the bytes have the value d, as `serde_json` reads them
abbrev pub HasValue : List ℕ → Data → Type 0
HasValue bytes d = IsUtf8 bytes × (read bytes ≡ Some d)

abbrev pub HasNoValue : List ℕ → Type 0
HasNoValue bytes = IsUtf8 bytes → read bytes ≡ None

-- the bytes have this scenario or this fault
pub data StandsFor (bytes : List ℕ) : Result Plan Fault → Type 0 where
  too_long : max_bytes < length bytes → StandsFor bytes (Err TooLong)
  no_value : length bytes ≤ max_bytes → HasNoValue bytes → StandsFor bytes (Err BadJson)
  value : (d : Data) → length bytes ≤ max_bytes → HasValue bytes d → StandsFor bytes (plan_of d)

-- ---- a returned result

-- the result satisfies the relation, unless memory ran out
abbrev pub Answers : {X : Type 0} → Result X Fault → (Result X Fault → Type 0) → Type 0
Answers (Err Memory) P = ⊤
Answers r P = P r

-- the result, mapped by view, is this, unless memory ran out
abbrev pub Yields : {X Y : Type 0} → (X → Y) → Result X Fault → Result Y Fault → Type 0
Yields view r q = Answers (seen view r) (λ p. q ≡ p)

-- ---- reading

-- the input, or more of it than a scenario may have
abbrev pub IsFront : List ℕ → List ℕ → Type 0
IsFront bytes input = (input ≡ bytes) ⊎ ((max_bytes < length bytes) × (rest : List ℕ) × (input ≡ bytes ++ rest))

-- a reader lost no more bytes than these
abbrev pub Takes : Option (List ℕ) → Option (List ℕ) → ℕ → Type 0
Takes old new most = (bytes : List ℕ) × (length bytes ≤ most) × Consumes old new bytes

-- the result satisfies the relation, unless memory ran out or the reader failed
abbrev pub Tells : Result Plan Fault → (Result Plan Fault → Type 0) → Type 0
Tells (Err Read) P = ⊤
Tells r P = Answers r P
