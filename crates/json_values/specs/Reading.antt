-- What is known of the values that a reader passes over.
use Rattle.std.specs.Prelude.{◌≡◌, ℕ, ℤ, ◌&&◌, List, ◌∷◌, length, Bool, true, Option, Some, None, option_map, option_and_then}
use Rattle.std.specs.{List.list_any, Str.bytes_eq}
use Rattle.json.specs.Token.{Token}
use Rattle.serde_json.specs.{Data.Num, Data.Data, Data.number, Data.Items, Data.Members, Data.no_members, Data.member, Find.as_i64, Find.as_number, Find.as_str, Find.as_array, Find.as_object}
use Rattle.serde_json.specs.Read.{of_json, of_items, of_members, converted}
use Rattle.json_values.specs.{declared.scalars.Opening.Opening, declared.scalars.Scalar.Scalar}
use Rattle.json.specs.Json as json
use Rattle.json_values.specs.declared.scalars.Scalar.TheVariants as scalar
use Rattle.json_values.specs.declared.scalars.Opening.TheVariants as opening

abbrev pub members_among : List (List ℕ) → Members → Bool
members_among keys no_members = true
members_among keys (member k d ms) = list_any (bytes_eq k) keys && members_among keys ms

-- ---- values that are read without an allocation

-- the integer that a scalar is
abbrev pub integer_in : Scalar → Option ℤ
integer_in (scalar.Integer z) = Some z
integer_in s = None

-- the text that a scalar is
abbrev pub text_in : Scalar → Option (List ℕ)
text_in (scalar.Text s) = Some s.now
text_in s = None

-- the scalar says which integer or which text a value is, if it is one
pub record Says (s : Scalar) (d : Data) : Type 0 where
  pub integer : integer_in s ≡ option_and_then as_i64 (as_number d)
  pub text : text_in s ≡ as_str d

-- the number that was read, in range, is the one that the scalar says
abbrev pub IsNumber : Scalar → Option Num → Type 0
IsNumber s read = (n : Num) × (read ≡ Some n) × Says s (number n)

-- the tokens begin with a value that is no array and no object, and the scalar says what it is
pub record IsScalar (s : Scalar) (tokens left : List Token) : Type 0 where
  pub value : Data
  pub read : (depth : ℕ) → converted of_json (json.value depth tokens) ≡ Some (value, left)
  pub says : Says s value
  pub no_array : as_array value ≡ None
  pub no_object : as_object value ≡ None

-- the tokens begin with the opening, and `left` follows it
abbrev pub Opens : Opening → List Token → List Token → Type 0
Opens opening.Array tokens left = tokens ≡ Token.begin_array ∷ left
Opens opening.Object tokens left = tokens ≡ Token.begin_object ∷ left
Opens (opening.Scalar s) tokens left = IsScalar s tokens left

-- the items of an array, behind its bracket
abbrev pub read_items : ℕ → List Token → Option (Items × List Token)
read_items depth tokens = converted of_items (json.items (json.value depth) (length tokens) tokens)

-- the members of an object, behind its brace
abbrev pub read_members : ℕ → List Token → Option (Members × List Token)
read_members depth tokens = converted (λ ms. of_members ms no_members) (json.members (json.value depth) (length tokens) tokens)

-- the tokens that follow what was read
abbrev pub rest : {A : Type 0} → Option (A × List Token) → Option (List Token)
rest read = option_map (λ p. p.1) read
