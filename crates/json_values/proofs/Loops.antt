-- An array or an object that is read an item or a member at a time, with the data that is read from each.
use Rattle.json_values.proofs.CommonNames.{nat_tests, ◌≡◌, ℕ, ◌-◌, ◌<◌, ◌≤◌, List, length, Option, Some, None, ap, ◌∙◌, arith, Token, Parse, parse_map, after_end_array, read_key, left, left-parse_map}
use Rattle.json_values.proofs.CommonNames.{items_end, items_fail, items_more, members_end, members_fail, members_more, members_no_key, Data, array, object, no_items, item, Members, no_members, put}
use Rattle.json_values.proofs.CommonNames.{of_json, of_items, of_members, converted, items, members}
use Rattle.json.specs.Json as json

pub read_array : (o : Option (json.Items × List Token)) → converted of_json (parse_map json.array o) ≡ parse_map array (converted of_items o)
read_array o = grind (arith, nat_tests)

pub read_object : (o : Option (json.Members × List Token)) → converted of_json (parse_map json.object o) ≡ parse_map object (converted (λ ms. of_members ms no_members) o)
read_object o = grind (arith, nat_tests)

behind_item : (j : json.Json) (d : Data) (o : Option (json.Items × List Token)) → of_json j ≡ Some d → converted of_items (parse_map (json.item j) o) ≡ parse_map (item d) (converted of_items o)
behind_item j d o is = grind (arith, nat_tests)

pub what_was_read : (o : Option (json.Json × List Token)) (d : Data) (r : List Token) → converted of_json o ≡ Some (d, r) → (j : json.Json) × (o ≡ Some (j, r)) × (of_json j ≡ Some d)
what_was_read o d r e = grind (arith, nat_tests)

pub next_item : (p : Parse json.Json) (n : ℕ) (ts left : List Token) (j : json.Json) (d : Data) → 0 < n → after_end_array ts ≡ None → p ts ≡ Some (j, left) → of_json j ≡ Some d
    → converted of_items (items p n ts) ≡ parse_map (item d) (converted of_items (items p (n - 1) left))
next_item p n ts left j d some going one is = ap (converted of_items) (items_more p n ts left j some going one) ∙ behind_item j d (items p (n - 1) left) is

pub last_item : (p : Parse json.Json) (n : ℕ) (ts left : List Token) → length ts ≤ n → after_end_array ts ≡ Some left → converted of_items (items p n ts) ≡ Some (no_items, left)
last_item p n ts left enough over = ap (converted of_items) (items_end p n ts left enough over)

pub next_member : (p : Parse json.Json) (found : Members) (n : ℕ) (k : List ℕ) (ts after left : List Token) (j : json.Json) (d : Data) → 0 < n → read_key ts ≡ Some (Some k, after) → p after ≡ Some (j, left) → of_json j ≡ Some d
    → converted (λ ms. of_members ms found) (members p n ts) ≡ converted (λ ms. of_members ms (put k d found)) (members p (n - 1) left)
next_member p found n k ts after left j d some key one is = grind (arith, nat_tests, members_more p n k ts after left j some key one)

pub last_member : (p : Parse json.Json) (found : Members) (n : ℕ) (ts left : List Token) → length ts ≤ n → read_key ts ≡ Some (None, left) → converted (λ ms. of_members ms found) (members p n ts) ≡ Some (found, left)
last_member p found n ts left enough over = ap (converted (λ ms. of_members ms found)) (members_end p n ts left enough over)

-- ---- an item or a member without data

pub next_item_fails : (p : Parse json.Json) (n : ℕ) (ts : List Token) → after_end_array ts ≡ None → converted of_json (p ts) ≡ None → converted of_items (items p n ts) ≡ None
unfolding items
next_item_fails p n ts going none = grind (arith, nat_tests, items_fail, items_more)

pub next_member_fails : (p : Parse json.Json) (found : Members) (n : ℕ) (k : List ℕ) (ts after : List Token) → read_key ts ≡ Some (Some k, after) → converted of_json (p after) ≡ None
    → converted (λ ms. of_members ms found) (members p n ts) ≡ None
unfolding members
next_member_fails p found n k ts after key none = grind (arith, nat_tests, members_fail, members_more)

pub no_key : (p : Parse json.Json) (found : Members) (n : ℕ) (ts : List Token) → read_key ts ≡ None → converted (λ ms. of_members ms found) (members p n ts) ≡ None
no_key p found n ts none = ap (converted (λ ms. of_members ms found)) (members_no_key p n ts none)

-- ---- an item that is passed over

pub pass_item : (p : Parse json.Json) (n : ℕ) (ts r : List Token) (d : Data) → 0 < n → after_end_array ts ≡ None → converted of_json (p ts) ≡ Some (d, r)
    → left (converted of_items (items p n ts)) ≡ left (converted of_items (items p (n - 1) r))
pass_item p n ts r d some going was = grind (arith, nat_tests, what_was_read (p ts) d r was, next_item p n ts r, left-parse_map (item d), left)

pub pass_member : (p : Parse json.Json) (found : Members) (n : ℕ) (k : List ℕ) (ts after r : List Token) (d : Data) → 0 < n → read_key ts ≡ Some (Some k, after) → converted of_json (p after) ≡ Some (d, r)
    → converted (λ ms. of_members ms found) (members p n ts) ≡ converted (λ ms. of_members ms (put k d found)) (members p (n - 1) r)
pass_member p found n k ts after r d some key was = grind (arith, nat_tests, what_was_read, next_member)

-- items that are passed over, and members
pub ruleset items_passed = (nat_tests, pass_item, next_item_fails, last_item)

pub ruleset members_passed = (nat_tests, no_key, next_member_fails, last_member)
