-- What a JSON value comes to at a key, and the flaw of a value.
use Rattle.std.specs.Prelude.{◌≡◌, ◌∷◌, ◌+◌, if◌then◌else◌}
use Rattle.scenario_text.specs.CommonNames.{ℕ, ℤ, pos, negsuc, List, [], Option, Some, None, Result, Ok, Err, ok_or, option_and_then, nat_lt, true, Scalar, integer_in, text_in, Data, Items, no_items}
use Rattle.scenario_text.specs.CommonNames.{item, as_number, as_i64, as_str, as_array, with, EventMask, StopFlags, no_events, no_flags, mask_with, both, events_named, flag_named, Options, no_options}
use Rattle.scenario_text.specs.CommonNames.{KeyError, Shape, Name, Number, WaitOption, Nohang, Untraced, Continued, bytes_eq, codes}

infixl 10 ◌>>=◌
abbrev pub ◌>>=◌ : {E A B : Type 0} → Result A E → (A → Result B E) → Result B E
(Ok x) >>= f = f x
(Err e) >>= f = Err e

-- a result, mapped by view
abbrev pub seen : {E X Y : Type 0} → (X → Y) → Result X E → Result Y E
seen view r = r >>= (λ x. Ok (view x))

abbrev pub Gives : {E X Y : Type 0} → (X → Y) → Result X E → Result Y E → Type 0
Gives view result reading = seen view result ≡ reading

-- the whole number or the text that a value is, if it is one
pub record Atom : Type 0 where
  pub integer : Option ℤ
  pub text : Option (List ℕ)

abbrev pub atom_of : Data → Atom
atom_of d = record { integer = option_and_then as_i64 (as_number d); text = as_str d }

abbrev pub atom_in : Scalar → Atom
atom_in s = record { integer = integer_in s; text = text_in s }

-- a whole number that fits a signed 64-bit integer
abbrev pub integer : Atom → Result ℤ KeyError
integer a = ok_or a.integer Shape

abbrev pub within : ℕ → ℕ → KeyError → ℤ → Result ℕ KeyError
within low high flaw (pos n) = if nat_lt n low then Err flaw else (if nat_lt high n then Err flaw else Ok n)
within low high flaw (negsuc n) = Err flaw

abbrev pub number_within : ℕ → ℕ → Atom → Result ℕ KeyError
number_within low high a = integer a >>= within low high Number

-- a number of 32 bits
abbrev pub word : Atom → Result ℕ KeyError
word a = number_within 0 4294967295 a

abbrev pub text : Atom → Result (List ℕ) KeyError
text a = ok_or a.text Shape

-- a name of a table
abbrev pub name_in : {X : Type 0} → (List ℕ → Option X) → Atom → Result X KeyError
name_in table a = text a >>= (λ t. ok_or (table t) Name)

abbrev pub items_of : Data → Result Items KeyError
items_of d = ok_or (as_array d) Shape

-- the items one after another, numbered from n on, up to the first that fails
abbrev pub each : {X E : Type 0} → (ℕ → Data → Result X E) → ℕ → Items → Result (List X) E
each f n no_items = Ok []
each f n (item d ds) = do
  x ← f n d
  xs ← each f (n + 1) ds
  Ok (x ∷ xs)

-- the value at a key that may not be missing, and at one that may
abbrev pub required : {X : Type 0} → (Data → Result X KeyError) → Option Data → Result X KeyError
required f d = ok_or d Shape >>= f

abbrev pub optional : {X : Type 0} → X → (Data → Result X KeyError) → Option Data → Result X KeyError
optional default f None = Ok default
optional default f (Some d) = f d

-- ---- arrays of names and of numbers; a repeated item counts once

-- the value of the text in a table
abbrev pub named : {X : Type 0} → List (List ℕ × X) → List ℕ → Option X
named [] text = None
named (row ∷ rows) text = if bytes_eq text row.0 then Some row.1 else named rows text

-- the options of wait4(2)
abbrev pub option_named : List ℕ → Option WaitOption
option_named = named ((codes "WNOHANG", Nohang) ∷ (codes "WUNTRACED", Untraced) ∷ (codes "WCONTINUED", Continued) ∷ [])

-- every wait4 acts as with WNOHANG
abbrev pub with_option : Options → WaitOption → Options
with_option o Nohang = o
with_option o Untraced = record o { untraced = true }
with_option o Continued = record o { continued = true }

-- the set with what an atom comes to
abbrev pub adds : {S X : Type 0} → (Atom → Result X KeyError) → (S → X → S) → S → Atom → Result S KeyError
adds reading add s a = reading a >>= (λ x. Ok (add s x))

-- the items of an array are added one after another, up to the first that fails
abbrev pub gather : {S : Type 0} → (S → Atom → Result S KeyError) → S → Items → Result S KeyError
gather added s no_items = Ok s
gather added s (item d ds) = added s (atom_of d) >>= (λ t. gather added t ds)

abbrev pub gathered : {S : Type 0} → (S → Atom → Result S KeyError) → S → Data → Result S KeyError
gathered added none d = items_of d >>= gather added none

abbrev pub options_of : Data → Result Options KeyError
options_of = gathered (adds (name_in option_named) with_option) no_options

abbrev pub mask_of : Data → Result EventMask KeyError
mask_of = gathered (adds (name_in events_named) mask_with) no_events

abbrev pub flags_of : Data → Result StopFlags KeyError
flags_of = gathered (adds (name_in flag_named) both) no_flags

-- a signal's number
abbrev pub signal_in : Atom → Result ℕ KeyError
signal_in a = number_within 1 31 a

abbrev pub set_of : Data → Result ℕ KeyError
set_of = gathered (adds signal_in with) 0
