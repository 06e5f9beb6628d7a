-- Lexemes at a place of a text, and the tokens that a reader of a text has before it.
use Rattle.std.specs.Prelude.{◌≡◌, ◌≢◌, ◌==◌, not, ℕ, ◌+◌, ◌-◌, ◌^◌, ◌<◌, ◌≤◌, Bool, true, false, List, [], ◌∷◌, ◌++◌, length, take, drop, get_or, IsUtf8, ⊤, Option, IfSome}
use Rattle.std.specs.Str.Parse.{AllDigits, digits_value}
use Rattle.json.specs.{Token.Token, Token.bad, Word.head, Word.ends_word, Lex.Lexeme, Lex.token, Lex.class, Lex.between, Lex.in_string, Lex.lex, Lex.fresh, Lex.after_value, Lex.after_comma, Lex.punctuate, Align.is_blank}
use Rattle.json.specs.Print.{IsNumber}
use Rattle.json_values.specs.{declared.lexer.Lexer.TheInside.Inside, declared.punctuation.Place.Place}
use Rattle.json_values.specs.declared.punctuation.Place.TheVariants.{Fresh, AfterValue, AfterComma, Failed}

-- so many bytes are room for the text, if it has a backslash
abbrev pub HasRoom : List ℕ → ℕ → Type 0
HasRoom text room = (i : ℕ) → get_or text i 32 ≡ 92 → length text ≤ room

-- the lexemes `ls` are those from the place r.1 on, within the string that is open there
abbrev pub PassesTo : Option (ℕ × ℕ) → List Lexeme → List ℕ → Type 0
PassesTo r ls text = IfSome r (λ p. ls ≡ lex in_string (drop p.1 text))

-- the text begins with a lexeme, or is empty
abbrev pub Ends : List ℕ → Type 0
Ends text = is_blank (class (head text)) ≡ true → text ≡ []

-- the bytes from a place up to `end`
abbrev pub piece : List ℕ → ℕ → ℕ → List ℕ
piece text from end = take (end - from) (drop from text)

-- the bytes begin with the name in quotes and a colon
abbrev pub IsWritten : List ℕ → List ℕ → Type 0
IsWritten name bytes = (length name ≤ 13) × (take (length name + 3) bytes ≡ 34 ∷ name ++ (34 ∷ 58 ∷ []))

-- whether two bytes differ
abbrev pub differ : ℕ × ℕ → Bool
differ p = not (p.0 == p.1)

-- digits, at least one, which write this value, below 10^18
pub record AreDigits (text : List ℕ) (from end value : ℕ) : Type 0 where
  pub later : from < end
  pub within : end ≤ length text
  pub small : value < 10 ^ 18
  pub digits : AllDigits 10 (piece text from end)
  pub writes : digits_value 10 (piece text from end) ≡ value

-- a whole number with no sign, before a delimiter
pub record IsWholeAt (text : List ℕ) (from end value : ℕ) : Type 0 where
  pub written : AreDigits text from end value
  pub first : get_or text from 0 ≡ 48 → end ≡ from + 1
  pub ended : ends_word (drop end text) ≡ true

-- a number, before a delimiter
pub record IsNumberAt (text : List ℕ) (from end : ℕ) : Type 0 where
  pub later : from ≤ end
  pub within : end ≤ length text
  pub number : IsNumber (piece text from end)
  pub ended : ends_word (drop end text) ≡ true

-- t is the token of the literal with this name: if the name comes before a delimiter, it is the first lexeme
abbrev pub LiteralOf : List ℕ → Token → Type 0
LiteralOf name t = (rest : List ℕ) → ends_word rest ≡ true → lex between (name ++ rest) ≡ token t ∷ lex between rest

-- ---- the tokens that a reader has before it

-- the lexer is at a lexeme, or at the end
pub record IsLexer (a : Inside) : Type 0 where
  pub utf8 : IsUtf8 a.text.now
  pub room : HasRoom a.text.now (length a.scratch.now + a.at)
  pub within : a.at ≤ length a.text.now
  pub solid : Ends (drop a.at a.text.now)

abbrev pub tokens_at : Place → List ℕ → List Token
tokens_at Fresh text = punctuate fresh (lex between text)
tokens_at AfterValue text = punctuate after_value (lex between text)
tokens_at AfterComma text = punctuate after_comma (lex between text)
tokens_at Failed text = []

-- behind a value, a comma is passed at once
abbrev pub NotBeforeComma : Place → List ℕ → Type 0
NotBeforeComma AfterValue text = head text ≢ 44
NotBeforeComma place text = ⊤

-- a closing bracket or the end may come there
abbrev pub may_close : Place → Bool
may_close Fresh = true
may_close AfterValue = true
may_close place = false

-- a value or a key may begin there
abbrev pub may_begin : Place → Bool
may_begin Fresh = true
may_begin AfterComma = true
may_begin place = false

-- the tokens if no allowed one comes there
abbrev pub refused_at : Place → List Token
refused_at Failed = []
refused_at place = bad ∷ []
