-- How deep a reply's object nests.
use Rattle.reply_json.proofs.CommonNames.{◌≡◌, ℕ, ◌≤◌, max, List, [], ◌∷◌, ◌++◌, arith, max_depth, depth, members_depth, Reply, Member, members_of, numbers_of, strings_of, reply_members, reply_value}

-- how deep members nest
abbrev level : List Member → ℕ
level ms = members_depth (members_of ms)

strings_low : (texts : List (List ℕ)) → depth (strings_of texts) ≤ 1
strings_low [] = omega arith
strings_low (text ∷ texts) = let rest = strings_low texts in omega arith

numbers_low : (ns : List ℕ) → depth (numbers_of ns) ≤ 1
numbers_low [] = omega arith
numbers_low (n ∷ ns) = let rest = numbers_low ns in omega arith

level-append : (ms ns : List Member) → level (ms ++ ns) ≡ max (level ms) (level ns)
level-append [] ns = omega arith
level-append (m ∷ ms) ns = let rest = level-append ms ns in omega arith

members_low : (r : Reply) → level (reply_members r) ≤ 2
members_low r = grind (arith, level-append, numbers_low, strings_low)

-- a reply's object nests an object at most, which has an array
pub shallow : (user n : ℕ) (r : Reply) → depth (reply_value user n r) ≤ max_depth
shallow user n r = let low = members_low r in omega arith
