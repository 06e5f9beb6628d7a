-- JSON objects as lists of their members, and the text of a value.
use Rattle.std.specs.Prelude.{◌≡◌, ℕ, ◌==◌, List, [], ◌∷◌, ◌++◌, map, flat_map, decimal, OnOk, Result, if◌then◌else◌}
pub use Rattle.json.specs.{Json.Json, Json.null, Json.boolean, Json.number, Json.string, Json.array, Json.object, Json.Members, Json.no_members, Json.member, Token.Token, Token.key, Tree.json_tokens}
use Rattle.json.specs.{Print.print, Value.items_of, Written.Written}

-- a member: its name and its value
abbrev pub Member : Type 0
Member = List ℕ × Json

abbrev pub members_of : List Member → Members
members_of [] = no_members
members_of (m ∷ ms) = member m.0 m.1 (members_of ms)

abbrev pub object_of : List Member → Json
object_of ms = object (members_of ms)

abbrev pub natural : ℕ → Json
natural n = number (decimal n)

-- a number that is 0 if its member is missing
abbrev pub nonzero_member : List ℕ → ℕ → List Member
nonzero_member name n = if n == 0 then [] else (name, natural n) ∷ []

abbrev pub numbers_of : List ℕ → Json
numbers_of ns = array (items_of (map (λ n. natural n) ns))

abbrev pub strings_of : List (List ℕ) → Json
strings_of texts = array (items_of (map (λ text. string text) texts))

-- the text of a value: its tokens, printed without a space
abbrev pub json_text : Json → List ℕ
json_text j = print (json_tokens j)

-- ---- the tokens of a writer

-- the tokens of values, and of members, one after another
abbrev pub value_tokens : List Json → List Token
value_tokens js = flat_map json_tokens js

abbrev pub member_tokens : List Member → List Token
member_tokens ms = flat_map (λ m. key m.0 ∷ json_tokens m.1) ms

-- the writer has got these tokens after those that it had
abbrev pub Puts : {E : Type 0} → Result (Unit {0}) E → Written → Written → List Token → Type 0
Puts r old new ts = (new.before ≡ old.before) × OnOk r (new.tokens ≡ old.tokens ++ ts)
