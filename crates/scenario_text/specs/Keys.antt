-- The keys of steps and of rules.
use Rattle.std.specs.Prelude.{◌==◌, ◌∷◌, if◌then◌else◌}
use Rattle.scenario_text.specs.CommonNames.{⊤, ℕ, List, [], Bool, Option, Some, None, Result, Ok, Err, codes, bit_and, bit_or, Members, no_members, member, KeyError, Shape, Key, Keys}
use Rattle.scenario_text.specs.{Fields.◌>>=◌, Fields.named}
use Rattle.scenario_text.specs.declared.keys.Key.TheVariants as key
use Rattle.scenario_text.specs.declared.keys.TheConstants.Keys as keys

-- tools/format names
abbrev pub key_rows : List (List ℕ × Key)
key_rows =
    ((codes "user", key.User) ∷ (codes "op", key.Op) ∷ (codes "caller", key.Caller) ∷ (codes "lwp", key.Lwp)
    ∷ (codes "act", key.Act) ∷ (codes "which", key.Which) ∷ (codes "request", key.Request) ∷ (codes "target", key.Target)
    ∷ (codes "data", key.Data) ∷ (codes "call", key.Call) ∷ (codes "code", key.Code) ∷ (codes "signal", key.Signal)
    ∷ (codes "options", key.Options) ∷ (codes "action", key.Action) ∷ (codes "rules", key.Rules) ∷ (codes "set", key.Set)
    ∷ (codes "mask", key.Mask) ∷ (codes "flags", key.Flags) ∷ (codes "decision", key.Decision) ∷ (codes "pass", key.Pass)
    ∷ [])

-- end

abbrev pub key_named : List ℕ → Option Key
key_named = named key_rows

-- the set of one key
-- tools/format sets by key
abbrev pub key_set : Key → Keys
key_set key.User = keys.USER
key_set key.Op = keys.OP
key_set key.Caller = keys.CALLER
key_set key.Lwp = keys.LWP
key_set key.Act = keys.ACT
key_set key.Which = keys.WHICH
key_set key.Request = keys.REQUEST
key_set key.Target = keys.TARGET
key_set key.Data = keys.DATA
key_set key.Call = keys.CALL
key_set key.Code = keys.CODE
key_set key.Signal = keys.SIGNAL
key_set key.Options = keys.OPTIONS
key_set key.Action = keys.ACTION
key_set key.Rules = keys.RULES
key_set key.Set = keys.SET
key_set key.Mask = keys.MASK
key_set key.Flags = keys.FLAGS
key_set key.Decision = keys.DECISION
key_set key.Pass = keys.PASS

-- end

abbrev pub set_named : Option Key → Keys
set_named None = keys.OTHER
set_named (Some k) = key_set k

infixl 20 ◌∪◌
abbrev pub ◌∪◌ : Keys → Keys → Keys
a ∪ b = record { 0 = bit_or a.0 b.0 }

-- the keys of an object's members
abbrev pub keys_in : Members → Keys
keys_in no_members = keys.NONE
keys_in (member k d ms) = set_named (key_named k) ∪ keys_in ms

abbrev pub are_among : Keys → Keys → Bool
are_among allowed ks = bit_and allowed.0 ks.0 == ks.0

-- there are no keys but the allowed ones
abbrev pub only : Keys → Keys → Result ⊤ KeyError
only allowed ks = if are_among allowed ks then Ok tt else Err Shape

-- the value, if there are no keys but the allowed ones
abbrev pub with_only : {X : Type 0} → Keys → Keys → X → Result X KeyError
with_only allowed ks x = only allowed ks >>= (λ _. Ok x)
