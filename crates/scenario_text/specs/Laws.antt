-- A set of keys is the set of their names, and nothing else.
use Rattle.std.specs.Prelude.{◌≡◌, ◌↔◌, ◌&&◌, ◌||◌, true, IsTrue}
use Rattle.scenario_text.specs.CommonNames.{ℕ, List, Bool, Some, Members, no_members, member, Key, Keys}
use Rattle.scenario_text.specs.Keys.{◌∪◌, are_among, key_named, key_set, keys_in, set_named}

-- whether the set has the key with this name
abbrev pub has : Keys → List ℕ → Bool
has keys name = are_among keys (set_named (key_named name))

-- whether the set has the name of each member of an object
abbrev pub has_all : Keys → Members → Bool
has_all keys no_members = true
has_all keys (member name d rest) = has keys name && has_all keys rest

-- the set of one key has the name of this key, and no other
abbrev pub SetOfOne : Type 0
SetOfOne = (k : Key) (name : List ℕ) → IsTrue (has (key_set k) name) ↔ (key_named name ≡ Some k)

-- two sets together have the names of both
abbrev pub SetOfBoth : Type 0
SetOfBoth = (a b : Keys) (name : List ℕ) → has (a ∪ b) name ≡ (has a name || has b name)

-- the keys of an object are among the allowed ones exactly if each member's name is
abbrev pub SetOfObject : Type 0
SetOfObject = (allowed : Keys) (ms : Members) → are_among allowed (keys_in ms) ≡ has_all allowed ms
