-- Items and members that are read one after another, compared with their array and their object.
use Rattle.scenario_text.proofs.CommonNames.{◌≡◌, ℕ, ℤ, ◌-◌, ◌<◌, ◌≤◌, List, ◌∷◌, length, Option, Some, None, Result, Ok, Err, refl, ap, ap₂, ◌∙◌, arith, Token, begin_array, begin_object, items}
use Rattle.scenario_text.proofs.CommonNames.{members, parse_map, after_end_array, read_key, read_key-shorter, Data, array, object, Items, item, Members, no_members, put, of_json, of_items, of_members}
use Rattle.scenario_text.proofs.CommonNames.{converted, Says, read_items, read_members, Scalar, array_value, object_value, next_item, last_item, next_item_fails, next_member_fails, no_key}
use Rattle.scenario_text.proofs.CommonNames.{pass_member, last_member, what_was_read, ◌>>=◌, atom_in, atom_of}
use Rattle.json.specs.Json.{value}
use Rattle.std.specs.Option.{option_map}

-- the items before `left` are those that `front` puts before others
pub record HasItems (depth : ℕ) (all left : List Token) (front : Items → Items) : Type 0 where
  pub turns : ℕ
  pub enough : length left ≤ turns
  pub shorter : length left ≤ length all
  pub same : read_items depth all ≡ parse_map front (converted of_items (items (value depth) turns left))

as_it_is : {A : Type 0} (o : Option (A × List Token)) → o ≡ parse_map (λ a. a) o
as_it_is None = refl
as_it_is (Some p) = refl

both : {A : Type 0} (f g : A → A) (o : Option (A × List Token)) → parse_map f (parse_map g o) ≡ parse_map (λ a. f (g a)) o
both f g None = refl
both f g (Some p) = refl

pub first_item : (depth : ℕ) (ts : List Token) → HasItems depth ts ts (λ ds. ds)
first_item depth ts = record { turns = length ts; enough = omega arith; shorter = omega arith; same = as_it_is _ }

module _ (depth : ℕ) (all left : List Token) (front : Items → Items) (h : HasItems depth all left front) where
  pub more_items : (mid r : List Token) (d : Data) → (after_end_array left ≡ None) × (mid ≡ left) → converted of_json (value depth mid) ≡ Some (d, r) → length r < length mid
      → HasItems depth all r (λ ds. front (item d ds))
  more_items mid r d going was less =
      let j = what_was_read (value depth left) d r (rw going.1 at was) in
      let size = ap length going.1 in
      record {
        turns = h.turns - 1;
        enough = omega (arith, h.enough, size);
        shorter = omega (arith, h.shorter, size);
        same = h.same ∙ ap (parse_map front) (next_item (value depth) h.turns left r j.0 d (omega (arith, h.enough, size)) going.0 j.1 j.2) ∙ both front (item d) _;
      }

-- the members before `left` are these
pub record HasMembers (depth : ℕ) (all left : List Token) (found : Members) : Type 0 where
  pub turns : ℕ
  pub enough : length left ≤ turns
  pub shorter : length left ≤ length all
  pub same : read_members depth all ≡ converted (λ js. of_members js found) (members (value depth) turns left)

pub first_member : (depth : ℕ) (ts : List Token) → HasMembers depth ts ts no_members
first_member depth ts = record { turns = length ts; enough = omega arith; shorter = omega arith; same = refl }

module _ (depth : ℕ) (all left : List Token) (found : Members) (h : HasMembers depth all left found) where
  pub more_members : (s r : List Token) (k : List ℕ) (d : Data) → read_key left ≡ Some (Some k, s) → converted of_json (value depth s) ≡ Some (d, r) → length r < length s
      → HasMembers depth all r (put k d found)
  more_members s r k d key was less =
      let named = read_key-shorter left (Some k) s key in
      record {
        turns = h.turns - 1;
        enough = omega (arith, h.enough, named);
        shorter = omega (arith, h.shorter, named);
        same = h.same ∙ pass_member (value depth) found h.turns k left s r d (omega (arith, h.enough, named)) key was;
      }

-- a key that was taken has a name
pub its_name : {X : Type 0} (f : List ℕ → X) (name : Option (List ℕ)) (key : X) → Some key ≡ option_map f name → (k : List ℕ) × (name ≡ Some k) × (key ≡ f k)
its_name f None key h = grind (arith, h)
its_name f (Some k) key h = (k, refl, grind (arith, h))

-- where a loop ends
pub ruleset ends = (next_item_fails, last_item, next_member_fails, no_key, last_member)

-- ---- from a bracket to the value

pub value_in_array : (depth : ℕ) (left : List Token) → 0 < depth → converted of_json (value depth (begin_array ∷ left)) ≡ parse_map array (read_items (depth - 1) left)
value_in_array depth left deep = array_value depth _ left deep refl

pub value_in_object : (depth : ℕ) (left : List Token) → 0 < depth → converted of_json (value depth (begin_object ∷ left)) ≡ parse_map object (read_members (depth - 1) left)
value_in_object depth left deep = object_value depth _ left deep refl

pub ruleset opened = (value_in_array, value_in_object)

-- what a scalar says of a value is its atom
pub atom_is : (s : Scalar) (d : Data) → Says s d → atom_in s ≡ atom_of d
atom_is s d h = ap₂ (λ (z : Option ℤ) (t : Option (List ℕ)). record { integer = z; text = t }) h.integer h.text

pub bind_ok : {X E : Type 0} (r : Result X E) → (r >>= (λ x. Ok x)) ≡ r
bind_ok (Ok x) = refl
bind_ok (Err e) = refl
