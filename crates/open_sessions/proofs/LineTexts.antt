-- What the text of a JSON value is read as.
use Rattle.serde_json.specs.Data as datum
use Rattle.std.proofs.Common.{◌≡◌, ℕ, suc, ◌*◌, ◌<◌, ◌≤◌, ◌^◌, Bool, true, false, cond, nat_lt, ltb-true, length, length-append, List, [], ◌∷◌, ◌++◌, Some, option_map, option_and_then, refl, sym, ap, ◌∙◌, append-nil, arith, IsUtf8}
use Rattle.std.{specs.{Prelude.{⊤, ℤ, pos, negsuc, decimal, ◌&&◌}, Fmt.signed_decimal}, proofs.lemmas.{Str.{IsUtf8-append, IsUtf8-nil, IsUtf8-from_ascii}, Fmt.{IsAscii-decimal, IsAscii-signed, length-decimal-le, length_signed_le}, Bool.and_parts}}
use Rattle.json.specs.{Token.Token, Json.{Json, Items, no_items, item, Members, no_members, member, null, boolean, number, string, array, object, if_last, value}}
use Rattle.json.specs.{Print.{print_from, token_text, separator, begins, ends, escape, escape_byte, escape_letter, quoted, IsNumber}, Tree.{json_tokens, items_tokens, members_tokens, depth, items_depth, members_depth, HasNumbers, ItemsHaveNumbers, MembersHaveNumbers}, Value.items_of}
use Rattle.json.proofs.Printed.{Tokens.tokens-print, Trees.{value-json_tokens, ArePrintable-json_tokens}, Utf8.{are_ascii, IsUtf8-are_ascii, IsUtf8-quoted, IsUtf8-key, IsUtf8-separator}, Decimals.{IsNumber-decimal, IsNumber-signed_decimal}}
use Rattle.serde_json.{specs.{Data.{Data, put}, Find.of_integer, Read.{of_json, of_items, of_members, read}}, proofs.Numbers.{number_of-decimal, number_of-negative}}
use Rattle.reply_json.specs.Objects.{Member, members_of, object_of, natural, json_text}
use Rattle.open_sessions.specs.StepLines.{integer}
use lib.Signed.{mag}

-- ---- the tokens of a text

-- each token's text is UTF-8, and short
abbrev AreTexts : List Token → Type 0
AreTexts [] = ⊤
AreTexts (t ∷ ts) = IsUtf8 (token_text t) × (length (token_text t) ≤ 123) × AreTexts ts

texts-append : (ts us : List Token) → AreTexts ts → AreTexts us → AreTexts (ts ++ us)
texts-append [] us h k = k
texts-append (t ∷ ts) us h k = (h.0, h.1, texts-append ts us h.2 k)

utf8_from : (after : Bool) (ts : List Token) → AreTexts ts → IsUtf8 (print_from after ts)
unfolding print_from
utf8_from after [] h = IsUtf8-nil
utf8_from after (t ∷ ts) h = IsUtf8-append _ _ (IsUtf8-separator after t) (IsUtf8-append _ _ h.0 (utf8_from (ends t) ts h.2))

comma_short : (b : Bool) → length {A = ℕ} (cond b (44 ∷ []) []) ≤ 1
comma_short true = omega arith
comma_short false = omega arith

length_from : (after : Bool) (ts : List Token) → AreTexts ts → length (print_from after ts) ≤ 124 * length ts
unfolding print_from
length_from after [] h = omega arith
length_from after (t ∷ ts) h =
    let rest = length_from (ends t) ts h.2 in
    let comma : length (separator after t) ≤ 1 = comma_short (after && begins t) in
    omega (arith, length-append (separator after t) (token_text t ++ print_from (ends t) ts), length-append (token_text t) (print_from (ends t) ts), h.1, comma, rest)

-- an ASCII text of a few bytes
abbrev pub is_name : List ℕ → Bool
is_name s = are_ascii s && nat_lt (length s) 21

-- each string, name and number is UTF-8 and short, and each number is one
abbrev mutual
  pub IsText : Json → Type 0
  IsText null = ⊤
  IsText (boolean b) = ⊤
  IsText (number s) = IsNumber s × IsUtf8 s × (length s ≤ 20)
  IsText (string s) = IsUtf8 s × (length s ≤ 20)
  IsText (array js) = ItemsAreTexts js
  IsText (object ms) = MembersAreTexts ms

  pub ItemsAreTexts : Items → Type 0
  ItemsAreTexts no_items = ⊤
  ItemsAreTexts (item j js) = IsText j × ItemsAreTexts js

  pub MembersAreTexts : Members → Type 0
  MembersAreTexts no_members = ⊤
  MembersAreTexts (member k j ms) = IsUtf8 k × (length k ≤ 20) × IsText j × MembersAreTexts ms

mutual
  numbers : (j : Json) → IsText j → HasNumbers j
  numbers null h = tt
  numbers (boolean b) h = tt
  numbers (number s) h = h.0
  numbers (string s) h = tt
  numbers (array js) h = item_numbers js h
  numbers (object ms) h = member_numbers ms h

  item_numbers : (js : Items) → ItemsAreTexts js → ItemsHaveNumbers js
  item_numbers no_items h = tt
  item_numbers (item j js) h = (numbers j h.0, item_numbers js h.1)

  member_numbers : (ms : Members) → MembersAreTexts ms → MembersHaveNumbers ms
  member_numbers no_members h = tt
  member_numbers (member k j ms) h = (numbers j h.2, member_numbers ms h.3)

name_utf8 : (s : List ℕ) → is_name s ≡ true → IsUtf8 s
name_utf8 s name = IsUtf8-are_ascii s (and_parts _ _ name).0

name_short : (s : List ℕ) → is_name s ≡ true → length s ≤ 20
name_short s name =
    let parts = and_parts (are_ascii s) (nat_lt (length s) 21) name in
    let low : length s < 21 = ltb-true (length s) 21 parts.1 in
    omega arith

bracket : (t : Token) → is_name (token_text t) ≡ true → (ts : List Token) → AreTexts ts → AreTexts (t ∷ ts)
bracket t e ts rest = (name_utf8 (token_text t) e, omega (arith, name_short (token_text t) e), rest)

byte_short : (a b : Bool) (x y z : List ℕ) → length x ≤ 6 → length y ≤ 6 → length z ≤ 6 → length (cond a x (cond b y z)) ≤ 6
byte_short true b x y z p q r = p
byte_short false true x y z p q r = q
byte_short false false x y z p q r = r

escape_short : (s : List ℕ) → length (escape s) ≤ 6 * length s
unfolding escape_byte
escape_short [] = omega arith
escape_short (x ∷ xs) =
    let one : length (escape_byte x) ≤ 6 = byte_short (nat_lt 0 (escape_letter x)) (nat_lt x 32) _ _ _ (omega arith) (omega arith) (omega arith) in
    omega (arith, escape_short xs, one, length-append (escape_byte x) (escape xs))

quoted_short : (s : List ℕ) → length s ≤ 20 → length (quoted s) ≤ 122
quoted_short s short = omega (arith, escape_short s, length-append (escape s) (34 ∷ []))

mutual
  texts : (j : Json) → IsText j → AreTexts (json_tokens j)
  texts null h = bracket Token.null refl [] tt
  texts (boolean true) h = bracket (Token.boolean true) refl [] tt
  texts (boolean false) h = bracket (Token.boolean false) refl [] tt
  texts (number s) h = (h.1, omega (arith, h.2), tt)
  texts (string s) h = (IsUtf8-quoted s h.0, omega (arith, quoted_short s h.1), tt)
  texts (array js) h = bracket Token.begin_array refl (items_tokens js) (item_texts js h)
  texts (object ms) h = bracket Token.begin_object refl (members_tokens ms) (member_texts ms h)

  item_texts : (js : Items) → ItemsAreTexts js → AreTexts (items_tokens js)
  item_texts no_items h = bracket Token.end_array refl [] tt
  item_texts (item j js) h = texts-append (json_tokens j) (items_tokens js) (texts j h.0) (item_texts js h.1)

  member_texts : (ms : Members) → MembersAreTexts ms → AreTexts (members_tokens ms)
  member_texts no_members h = bracket Token.end_object refl [] tt
  member_texts (member k j ms) h = (
    IsUtf8-key k h.0,
    omega (arith, quoted_short k h.1, length-append (quoted k) (58 ∷ [])),
    texts-append (json_tokens j) (members_tokens ms) (texts j h.2) (member_texts ms h.3),
  )

-- ---- values and what they are read as

-- the value nests at most so deep, and its text is read as d
pub record IsRead (k : ℕ) (j : Json) (d : Data) : Type 0 where
  pub text : IsText j
  pub low : depth j ≤ k
  pub same : of_json j ≡ Some d

pub text_utf8 : (j : Json) (d : Data) → IsRead 4 j d → IsUtf8 (json_text j)
text_utf8 j d is = utf8_from false (json_tokens j) (texts j is.text)

-- a text with a few tokens is short
pub text_short : (j : Json) (d : Data) → IsRead 4 j d → length (json_text j) ≤ 124 * length (json_tokens j)
text_short j d is = length_from false (json_tokens j) (texts j is.text)

pub text_read : (j : Json) (d : Data) → IsRead 4 j d → read (json_text j) ≡ Some d
text_read j d is =
    ap (λ o. option_and_then of_json (option_and_then (λ p. if_last p.0 p.1) o))
    (ap (value 127) (tokens-print (json_tokens j) (ArePrintable-json_tokens j (numbers j is.text)) ∙ sym (append-nil (json_tokens j)))
    ∙ value-json_tokens j 127 [] (omega (arith, is.low)))
    ∙ is.same

pub natural_read : (k n : ℕ) → n < 2 ^ 64 → IsRead k (natural n) (datum.number (datum.unsigned n))
natural_read k n small = record {
  text = (IsNumber-decimal n small, IsUtf8-from_ascii (decimal n) (IsAscii-decimal n small), length-decimal-le 20 n (omega arith) (omega arith) small);
  low = omega arith;
  same = ap (option_map datum.number) (number_of-decimal n small);
}

pub string_read : (k : ℕ) (s : List ℕ) → is_name s ≡ true → IsRead k (string s) (datum.string s)
string_read k s name = record { text = (name_utf8 s name, name_short s name); low = omega arith; same = refl }

pub integer_read : (k : ℕ) (z : ℤ) → mag z < 2 ^ 63 → IsRead k (integer z) (datum.number (of_integer z))
integer_read k (pos n) small = natural_read k n (omega arith)
integer_read k (negsuc n) small = record {
  text = (IsNumber-signed_decimal (negsuc n) small, IsUtf8-from_ascii (signed_decimal (negsuc n)) (IsAscii-signed (negsuc n) small), length_signed_le 19 (negsuc n) (omega arith) small);
  low = omega arith;
  same = ap (option_map datum.number) (number_of-negative n small);
}

-- ---- arrays

abbrev pub items_in : List Data → datum.Items
items_in [] = datum.no_items
items_in (d ∷ ds) = datum.item d (items_in ds)

abbrev pub AllRead : ℕ → List Json → List Data → Type 0
AllRead k [] [] = ⊤
AllRead k (j ∷ js) (d ∷ ds) = IsRead k j d × AllRead k js ds
AllRead k js ds = ⊥

record AreItems (k : ℕ) (js : Items) (ds : datum.Items) : Type 0 where
  text : ItemsAreTexts js
  low : items_depth js ≤ k
  same : of_items js ≡ Some ds

one_item : (k : ℕ) (j : Json) (d : Data) (js : Items) (ds : datum.Items) → IsRead k j d → AreItems k js ds → AreItems k (item j js) (datum.item d ds)
one_item k j d js ds is are = record {
  text = (is.text, are.text);
  low = omega (arith, is.low, are.low);
  same = ap (option_and_then (λ x. option_map (datum.item x) (of_items js))) is.same ∙ ap (option_map (datum.item d)) are.same;
}

items_read : (k : ℕ) (js : List Json) (ds : List Data) → AllRead k js ds → AreItems k (items_of js) (items_in ds)
items_read k [] [] h = record { text = tt; low = omega arith; same = refl }
items_read k (j ∷ js) (d ∷ ds) h = one_item k j d (items_of js) (items_in ds) h.0 (items_read k js ds h.1)
items_read k js ds h = absurd h

pub array_read : (k : ℕ) (js : List Json) (ds : List Data) → AllRead k js ds → IsRead (suc k) (array (items_of js)) (datum.array (items_in ds))
array_read k js ds h =
    let are = items_read k js ds h in
    record { text = are.text; low = omega (arith, are.low); same = ap (option_map datum.array) are.same }

-- ---- objects

-- the values at the names, the last at a name
abbrev pub puts : List Member → List Data → datum.Members → datum.Members
puts (m ∷ ms) (d ∷ ds) found = puts ms ds (put m.0 d found)
puts ms ds found = found

abbrev pub AllMembers : ℕ → List Member → List Data → Type 0
AllMembers k [] [] = ⊤
AllMembers k (m ∷ ms) (d ∷ ds) = (is_name m.0 ≡ true) × IsRead k m.1 d × AllMembers k ms ds
AllMembers k ms ds = ⊥

pub members_append : (k : ℕ) (ms ns : List Member) (ds es : List Data) → AllMembers k ms ds → AllMembers k ns es → AllMembers k (ms ++ ns) (ds ++ es)
members_append k [] ns [] es h more = more
members_append k (m ∷ ms) ns (d ∷ ds) es h more = (h.0, h.1, members_append k ms ns ds es h.2 more)
members_append k ms ns ds es h more = absurd h

record AreMembers (k : ℕ) (ms : Members) (found all : datum.Members) : Type 0 where
  text : MembersAreTexts ms
  low : members_depth ms ≤ k
  same : of_members ms found ≡ Some all

one_member : (k : ℕ) (name : List ℕ) (j : Json) (d : Data) (ms : Members) (found all : datum.Members) → is_name name ≡ true → IsRead k j d → AreMembers k ms (put name d found) all
    → AreMembers k (member name j ms) found all
one_member k name j d ms found all named is are = record {
  text = (name_utf8 name named, name_short name named, is.text, are.text);
  low = omega (arith, is.low, are.low);
  same = ap (option_and_then (λ x. of_members ms (put name x found))) is.same ∙ are.same;
}

members_read : (k : ℕ) (ms : List Member) (ds : List Data) (found : datum.Members) → AllMembers k ms ds → AreMembers k (members_of ms) found (puts ms ds found)
members_read k [] [] found h = record { text = tt; low = omega arith; same = refl }
members_read k (m ∷ ms) (d ∷ ds) found h = one_member k m.0 m.1 d (members_of ms) found (puts ms ds (put m.0 d found)) h.0 h.1 (members_read k ms ds (put m.0 d found) h.2)
members_read k ms ds found h = absurd h

abbrev pub object_in : List Member → List Data → Data
object_in ms ds = datum.object (puts ms ds datum.no_members)

pub object_read : (k : ℕ) (ms : List Member) (ds : List Data) → AllMembers k ms ds → IsRead (suc k) (object_of ms) (object_in ms ds)
object_read k ms ds h =
    let are = members_read k ms ds datum.no_members h in
    record { text = are.text; low = omega (arith, are.low); same = ap (option_map datum.object) are.same }
