-- What the first token of a value says of it.
use Rattle.json_values.proofs.CommonNames.{nat_tests, ◌≡◌, ◌⊎◌, ℕ, ℤ, ◌-◌, ◌<◌, List, [], ◌∷◌, length, Bool, Bor, Option, Some, None, option_and_then, refl, ap, ◌∙◌, arith, Token, items, members}
use Rattle.json_values.proofs.CommonNames.{parse_map, token_of, left_some, value-begin_array, value-begin_object, value_is, none-some, Num, Data, array, object, as_i64, of_json, number_of, converted}
use Rattle.json_values.proofs.CommonNames.{IsScalar, Opens, Says, read_items, read_members, rest, value, as_array, as_object, Opening, Scalar}
use Rattle.serde_json.specs.Data.{null, boolean, string}
use Rattle.json_values.specs.Reading.{IsNumber}
use Rattle.json_values.proofs.Loops.{read_array, read_object}
use Rattle.json.specs.declared.token.Token as json_token
use Rattle.json.specs.declared.token.Token.TheVariants as json_variant
use Rattle.json_values.specs.declared.scalars.Opening.TheVariants as opening
use Rattle.json_values.specs.declared.scalars.Scalar.TheVariants as scalar

-- at a token that opens nothing, the depth plays no part
at_token : (ts : List Token) (t : Token) (left : List Token) (depth : ℕ) → ts ≡ t ∷ left → converted of_json (value depth ts) ≡ converted of_json (value depth (t ∷ left))
at_token ts t left depth e = ap (λ x. converted of_json (value depth x)) e

pub no_token : (ts : List Token) → ts ≡ [] → (depth : ℕ) → converted of_json (value depth ts) ≡ None
no_token ts e depth = ap (λ x. converted of_json (value depth x)) e ∙ ap (converted of_json) (value_is depth [])

one_token : (s : Scalar) (t : Token) (d : Data) (ts left : List Token) → ts ≡ t ∷ left → ((depth : ℕ) → converted of_json (value depth (t ∷ left)) ≡ Some (d, left)) → Says s d → as_array d ≡ None → as_object d ≡ None → IsScalar s ts left
one_token s t d ts left e read says no_array no_object = record { value = d; read = λ depth. at_token ts t left depth e ∙ read depth; says = says; no_array = no_array; no_object = no_object }

pub string_scalar : (s : Bor (List ℕ)) (ts left : List Token) → ts ≡ Token.string s.now ∷ left → IsScalar (scalar.Text s) ts left
string_scalar s ts left e = one_token (scalar.Text s) (Token.string s.now) (string s.now) ts left e (λ depth. ap (converted of_json) (value_is depth _)) (record { integer = refl; text = refl }) refl refl

pub boolean_scalar : (b : Bool) (ts left : List Token) → ts ≡ Token.boolean b ∷ left → IsScalar scalar.Other ts left
boolean_scalar b ts left e = one_token scalar.Other (Token.boolean b) (boolean b) ts left e (λ depth. ap (converted of_json) (value_is depth _)) (record { integer = refl; text = refl }) refl refl

pub null_scalar : (ts left : List Token) → ts ≡ Token.null ∷ left → IsScalar scalar.Other ts left
null_scalar ts left e = one_token scalar.Other Token.null null ts left e (λ depth. ap (converted of_json) (value_is depth _)) (record { integer = refl; text = refl }) refl refl

pub number_scalar : (s : Scalar) (text : List ℕ) (ts left : List Token) → ts ≡ Token.number text ∷ left → IsNumber s (number_of text) → IsScalar s ts left
number_scalar s text ts left e (n, is, says) = grind (arith, nat_tests, at_token, value_is)

pub number_beyond : (text : List ℕ) (ts left : List Token) (depth : ℕ) → ts ≡ Token.number text ∷ left → number_of text ≡ None → converted of_json (value depth ts) ≡ None
number_beyond text ts left depth e none = grind (arith, nat_tests, at_token, value_is)

pub other_scalar : (t : json_token.Token) (ts left : List Token) → ts ≡ token_of t ∷ left → ((b : Bool) × (t ≡ json_variant.Bool b)) ⊎ (t ≡ json_variant.Null) → IsScalar scalar.Other ts left
other_scalar t ts left first x4 = grind (arith, nat_tests, boolean_scalar, null_scalar)

-- ---- arrays and objects

pub array_value : (depth : ℕ) (ts left : List Token) → 0 < depth → ts ≡ Token.begin_array ∷ left → converted of_json (value depth ts) ≡ parse_map array (read_items (depth - 1) left)
array_value depth ts left deep e = at_token ts Token.begin_array left depth e ∙ ap (converted of_json) (value-begin_array depth left deep) ∙ read_array (items (value (depth - 1)) (length left) left)

pub object_value : (depth : ℕ) (ts left : List Token) → 0 < depth → ts ≡ Token.begin_object ∷ left → converted of_json (value depth ts) ≡ parse_map object (read_members (depth - 1) left)
object_value depth ts left deep e = at_token ts Token.begin_object left depth e ∙ ap (converted of_json) (value-begin_object depth left deep) ∙ read_object (members (value (depth - 1)) (length left) left)

pub too_deep : (depth : ℕ) (o : Opening) (ts left : List Token) → depth ≡ 0 → (o ≡ opening.Array) ⊎ (o ≡ opening.Object) → Opens o ts left → converted of_json (value depth ts) ≡ None
unfolding value
too_deep depth o ts left bottom x5 opens = grind (arith, nat_tests)

module _ (depth : ℕ) (o : Opening) (ts left : List Token) (deep : 0 < depth) (opens : Opens o ts left) where
  pub passed_array : (r : List Token) → o ≡ opening.Array → rest (read_items (depth - 1) left) ≡ Some r → (d : Data) × (converted of_json (value depth ts) ≡ Some (d, r)) × Says scalar.Other d
  passed_array r e was = grind (arith, nat_tests, left_some (read_items (depth - 1) left) r was, array_value depth ts left deep)

  pub failed_array : o ≡ opening.Array → read_items (depth - 1) left ≡ None → converted of_json (value depth ts) ≡ None
  failed_array e none = grind (arith, nat_tests, array_value depth ts left deep)

  pub passed_object : (r : List Token) → o ≡ opening.Object → rest (read_members (depth - 1) left) ≡ Some r → (d : Data) × (converted of_json (value depth ts) ≡ Some (d, r)) × Says scalar.Other d
  passed_object r e was = grind (arith, nat_tests, left_some (read_members (depth - 1) left) r was, object_value depth ts left deep)

  pub failed_object : o ≡ opening.Object → read_members (depth - 1) left ≡ None → converted of_json (value depth ts) ≡ None
  failed_object e none = grind (arith, nat_tests, object_value depth ts left deep)

-- a number that is an integer is said by it
pub integer_number : (z : ℤ) (read : Option Num) → option_and_then as_i64 read ≡ Some z → IsNumber (scalar.Integer z) read
integer_number z read e = grind (arith, nat_tests, none-some)

-- what a first token says of a value
pub ruleset first_tokens = (nat_tests, no_token, string_scalar, number_scalar, other_scalar)

-- what is known once a value is passed over
pub ruleset passed_over = (nat_tests, too_deep, passed_array, failed_array, passed_object, failed_object)
