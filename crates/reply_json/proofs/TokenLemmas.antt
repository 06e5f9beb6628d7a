-- The tokens of objects and arrays by their members and values.
use Rattle.reply_json.proofs.CommonNames.{◌≡◌, ℕ, ◌≤◌, List, [], ◌∷◌, ◌++◌, map, Some, option_and_then, refl, sym, ap, ◌∙◌, append_assoc, append-nil, names_of, OnOk, Result, Ok, Err, Json, document}
use Rattle.reply_json.proofs.CommonNames.{string, if_last, max_depth, value, tokens, print, Token, key, end_object, json_tokens, items_tokens, members_tokens, depth, items_of, value-json_tokens}
use Rattle.reply_json.proofs.CommonNames.{Member, members_of, json_text, member_tokens}

-- the tokens of an object's members, and the brace that closes it
pub members-members : (ms : List Member) → members_tokens (members_of ms) ≡ member_tokens ms ++ end_object ∷ []
members-members [] = refl
members-members (m ∷ ms) =
    ap (λ ts. key m.0 ∷ (json_tokens m.1 ++ ts)) (members-members ms) ∙ ap (λ ts. key m.0 ∷ ts) (sym (append_assoc (json_tokens m.1) (member_tokens ms) _))

-- members after members
pub member_tokens-append : (ms ns : List Member) → member_tokens (ms ++ ns) ≡ member_tokens ms ++ member_tokens ns
member_tokens-append [] ns = refl
member_tokens-append (m ∷ ms) ns =
    ap (λ ts. key m.0 ∷ (json_tokens m.1 ++ ts)) (member_tokens-append ms ns) ∙ ap (λ ts. key m.0 ∷ ts) (sym (append_assoc (json_tokens m.1) _ _))

-- tokens that are read back are a text that is read back as the value
pub document-back : (j : Json) → depth j ≤ max_depth → tokens (print (json_tokens j)) ≡ json_tokens j → document (json_text j) ≡ Some j
document-back j shallow back =
    ap (option_and_then (λ p. if_last p.0 p.1))
    (ap (value max_depth) (back ∙ sym (append-nil (json_tokens j))) ∙ value-json_tokens j max_depth [] shallow)

-- ---- values one after another

-- the names of some flags, as strings, and the bracket after them
abbrev pub name_tokens : ℕ → List (List ℕ × ℕ) → List Token
name_tokens bits rows = items_tokens (items_of (map (λ text. string text) (names_of rows bits)))

-- ---- tokens after tokens

pub tokens_put : {E : Type 0} (r : Result (Unit {0}) E) (ts us old mid new : List Token)
    → mid ≡ old ++ ts → OnOk r (new ≡ mid ++ us) → OnOk r (new ≡ old ++ (ts ++ us))
tokens_put (Err e) ts us old mid new m n = tt
tokens_put (Ok u) ts us old mid new m n = rw (n, m) (append_assoc old ts us)

pub ruleset put_rules = (member_tokens-append, members-members, append_assoc)
