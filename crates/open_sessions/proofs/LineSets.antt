-- Arrays of names and of numbers in a line: their texts, and the set that they are.
use Rattle.serde_json.specs.Data as datum
use Rattle.std.proofs.Common.{◌≡◌, ℕ, zero, suc, ◌+◌, ◌<◌, ◌≤◌, ◌^◌, ◌-◌, Bool, true, false, cond, List, [], ◌∷◌, map, filter, Option, Some, refl, sym, ap, ◌∙◌, arith, inl, inr, bit_and, nat_lt, ltb-true}
use Rattle.std.{specs.Prelude.{⊤, Ok, ◌&&◌, ◌||◌, ◌==◌}, specs.Int.bit_at, proofs.lemmas.{Bool.{and_parts, cases_Bool, cases_eq, eqb-true, ne_eqb}, Bool.Decides.nat_tests, Nat.or_lt, Nat.Bits.{bit_at-lt, same_from_bits_below}}}
use Rattle.std.proofs.Math.Pow.{pow-lt}
use Rattle.json.specs.Json.{string}
use Rattle.serde_json.specs.{Data.Data}
use Rattle.bitflags.specs.Sets.{find_row}
use Rattle.signals.{specs.{Sets.{has, bit, with, members, numbers}, Laws.IsSignal}, proofs.Members.{has-bit, members_after}}
use Rattle.event_masks.specs.{Names.{event_table, stop_table, names_of}, Exits.{mask_with, no_events, both, no_flags}, Reading.{events_named, flag_named}, declared.{EventMask.EventMask, StopFlags.StopFlags}}
use Rattle.scenario_text.specs.{Fields.{atom_of, adds, gather, name_in, signal_in, mask_of, flags_of, set_of}}
use Rattle.reply_json.specs.Objects.{natural, numbers_of, strings_of}
use Rattle.open_sessions.proofs.LineTexts.{AllRead, IsRead, is_name, array_read, items_in, natural_read, string_read}

-- ---- facts of each number below a limit, by computation

abbrev pub upto : (ℕ → Bool) → ℕ → Bool
upto p zero = true
upto p (suc n) = p n && upto p n

pub upto_sound : (p : ℕ → Bool) (n : ℕ) → upto p n ≡ true → (i : ℕ) → i < n → p i ≡ true
upto_sound p zero h i less = absurd (omega arith)
upto_sound p (suc n) h i less =
    let parts = and_parts _ _ h in
    elim (cases_eq i n) [ inl same ↦ rw same parts.0 | inr other ↦ upto_sound p n parts.1 i (omega arith) ]

-- ---- names that pass a test, added one after another

abbrev Row : Type 0
Row = List ℕ × ℕ

abbrev row_data : Row → Data
row_data row = datum.string row.0

module _ {X : Type 0} (table : List ℕ → Option X) (add : X → X → X) (test : Row → Bool) (of : Row → X) where
  abbrev chosen : List Row → X → X
  chosen [] s = s
  chosen (y ∷ ys) s = chosen ys (cond (test y) (add s (of y)) s)

  -- each name is that of its value
  abbrev AreNamed : List Row → Type 0
  AreNamed [] = ⊤
  AreNamed (y ∷ ys) = (table y.0 ≡ Some (of y)) × AreNamed ys

  one_more : (b : Bool) (y : Row) (ys : List Row) (s : X) → table y.0 ≡ Some (of y)
      → ((t : X) → gather (adds (name_in table) add) t (items_in (map row_data (filter test ys))) ≡ Ok (chosen ys t))
      → gather (adds (name_in table) add) s (items_in (map row_data (cond b (y ∷ filter test ys) (filter test ys)))) ≡ Ok (chosen ys (cond b (add s (of y)) s))
  one_more true y ys s known more = rw known (more (add s (of y)))
  one_more false y ys s known more = more s

  gathered_names : (ys : List Row) (s : X) → AreNamed ys → gather (adds (name_in table) add) s (items_in (map row_data (filter test ys))) ≡ Ok (chosen ys s)
  gathered_names [] s known = refl
  gathered_names (y ∷ ys) s known = one_more (test y) y ys s known.0 (λ t. gathered_names ys t known.1)

-- ---- names of flags

abbrev has_row : ℕ → Row → Bool
has_row bits row = bit_and bits row.1 == row.1

-- the values of the names of a set's flags
abbrev pub names_data : List Row → ℕ → Data
names_data table bits = datum.array (items_in (map row_data (filter (has_row bits) table)))

abbrev rows_ascii : List Row → Bool
rows_ascii [] = true
rows_ascii (row ∷ rows) = is_name row.0 && rows_ascii rows

rows_read : (k : ℕ) (rows : List Row) → rows_ascii rows ≡ true → AllRead k (map (λ text. string text) (map (λ row. row.0) rows)) (map row_data rows)
rows_read k [] ascii = tt
rows_read k (row ∷ rows) ascii = let parts = and_parts _ _ ascii in (string_read k row.0 parts.0, rows_read k rows parts.1)

kept_ascii : (test : Row → Bool) (rows : List Row) → rows_ascii rows ≡ true → rows_ascii (filter test rows) ≡ true
kept_ascii test [] ascii = refl
kept_ascii test (row ∷ rows) ascii = let parts = and_parts _ _ ascii in go (test row) parts.0 (kept_ascii test rows parts.1)
  where
    go : (b : Bool) → is_name row.0 ≡ true → rows_ascii (filter test rows) ≡ true → rows_ascii (cond b (row ∷ filter test rows) (filter test rows)) ≡ true
    go true one rest = rw one rest
    go false one rest = rest

pub names_read : (k : ℕ) (table : List Row) (bits : ℕ) → rows_ascii table ≡ true → IsRead (suc k) (strings_of (names_of table bits)) (names_data table bits)
names_read k table bits ascii =
    let kept = filter (has_row bits) table in
    array_read k (map (λ text. string text) (names_of table bits)) (map row_data kept) (rows_read k kept (kept_ascii (has_row bits) table ascii))

abbrev event : Row → EventMask
event row = record { 0 = row.1 }

abbrev flag : Row → StopFlags
flag row = record { 0 = row.1 }

abbrev masked : ℕ → EventMask
masked bits = chosen events_named mask_with (has_row bits) event event_table no_events

abbrev flagged : ℕ → StopFlags
flagged bits = chosen flag_named both (has_row bits) flag stop_table no_flags

-- a set of known flags is that of its names
pub mask_of_names : (bits : ℕ) → bits < 64 → mask_of (names_data event_table bits) ≡ Ok (record { 0 = bits })
unfolding find_row
mask_of_names bits known =
    let same : (masked bits).0 ≡ bits = eqb-true _ _ (upto_sound (λ n. (masked n).0 == n) 64 refl bits known) in
    gathered_names events_named mask_with (has_row bits) event event_table no_events (refl, (refl, (refl, (refl, (refl, (refl, tt))))))
    ∙ ap (λ n. Ok (record { 0 = n })) same

pub flags_of_names : (bits : ℕ) → bits < 512 → flags_of (names_data stop_table bits) ≡ Ok (record { 0 = bits })
unfolding find_row
flags_of_names bits known =
    let same : (flagged bits).0 ≡ bits = eqb-true _ _ (upto_sound (λ n. (flagged n).0 == n) 512 refl bits known) in
    gathered_names flag_named both (has_row bits) flag stop_table no_flags (refl, (refl, (refl, (refl, (refl, (refl, (refl, (refl, (refl, tt)))))))))
    ∙ ap (λ n. Ok (record { 0 = n })) same

-- ---- numbers of signals

abbrev signal_data : ℕ → Data
signal_data n = datum.number (datum.unsigned n)

-- the values of the numbers of a set's signals
abbrev pub set_data : ℕ → Data
set_data set = datum.array (items_in (map signal_data (filter (has set) numbers)))

abbrev all_small : List ℕ → Bool
all_small [] = true
all_small (n ∷ ns) = nat_lt n 64 && all_small ns

numbers_read : (k : ℕ) (ns : List ℕ) → all_small ns ≡ true → AllRead k (map (λ n. natural n) ns) (map signal_data ns)
numbers_read k [] small = tt
numbers_read k (n ∷ ns) small =
    let parts = and_parts _ _ small in
    let low : n < 64 = ltb-true n 64 parts.0 in
    (natural_read k n (omega arith), numbers_read k ns parts.1)

kept_small : (test : ℕ → Bool) (ns : List ℕ) → all_small ns ≡ true → all_small (filter test ns) ≡ true
kept_small test [] small = refl
kept_small test (n ∷ ns) small = let parts = and_parts _ _ small in go (test n) parts.0 (kept_small test ns parts.1)
  where
    go : (b : Bool) → nat_lt n 64 ≡ true → all_small (filter test ns) ≡ true → all_small (cond b (n ∷ filter test ns) (filter test ns)) ≡ true
    go true one rest = rw one rest
    go false one rest = rest

pub set_read : (k set : ℕ) → IsRead (suc k) (numbers_of (members set)) (set_data set)
unfolding members
set_read k set =
    let kept = filter (has set) numbers in
    array_read k (map (λ n. natural n) kept) (map signal_data kept) (numbers_read k kept (kept_small (has set) numbers refl))

-- the set of those of the numbers that a set has
abbrev collected : ℕ → List ℕ → ℕ → ℕ
collected set [] s = s
collected set (n ∷ ns) s = collected set ns (cond (has set n) (with s n) s)

abbrev pub among : ℕ → List ℕ → Bool
among m [] = false
among m (n ∷ ns) = (m == n) || among m ns

abbrev AreSignals : List ℕ → Type 0
AreSignals [] = ⊤
AreSignals (n ∷ ns) = IsSignal n × AreSignals ns

collected_has : (set m : ℕ) (ns : List ℕ) (s : ℕ) → IsSignal m → AreSignals ns → has (collected set ns s) m ≡ (has s m || (among m ns && has set m))
collected_has set m [] s signal all = grind (arith, nat_tests)
collected_has set m (n ∷ ns) s signal all =
    let rest = collected_has set m ns (cond (has set n) (with s n) s) signal all.1 in
    let one = (members_after s 0 n m all.0 signal).added in
    grind (arith, nat_tests, rest, one, cases_Bool (has set n), eqb-true m n)

collected_low : (set : ℕ) (ns : List ℕ) (s : ℕ) → AreSignals ns → s < 2 ^ 31 → collected set ns s < 2 ^ 31
collected_low set [] s all low = low
collected_low set (n ∷ ns) s all low = collected_low set ns (cond (has set n) (with s n) s) all.1 (go (has set n))
  where
    bit_low : bit n < 2 ^ 31
    bit_low = pow-lt {i = n - 1} {j = 31} (omega (arith, all.0.0, all.0.1))

    go : (b : Bool) → cond b (with s n) s < 2 ^ 31
    go true = or_lt 31 s (bit n) low bit_low
    go false = low

one_bit : (x y : ℕ) → x < 2 → y < 2 → (x == 1) ≡ (y == 1) → x ≡ y
one_bit x y low less same = grind (arith, nat_tests)

-- two sets with the same signals are the same
pub same_sets : (a b : ℕ) → a < 2 ^ 31 → b < 2 ^ 31 → ((m : ℕ) → IsSignal m → has a m ≡ has b m) → a ≡ b
same_sets a b low less same =
    same_from_bits_below 31 a b low less
    (λ i within. let one : 1 ≤ i + 1 = omega arith in
    let first = has-bit a (i + 1) one in
    let second = has-bit b (i + 1) one in
    let place : i + 1 - 1 ≡ i = omega arith in
    let is : has a (i + 1) ≡ has b (i + 1) = same (i + 1) (one, omega arith) in
    one_bit (bit_at a i) (bit_at b i) (bit_at-lt a i) (bit_at-lt b i) (rw place at (sym first ∙ (is ∙ second))))

signals_test : List ℕ → Bool
signals_test [] = true
signals_test (n ∷ ns) = (nat_lt 0 n && nat_lt n 32) && signals_test ns

are_signals : (ns : List ℕ) → signals_test ns ≡ true → AreSignals ns
unfolding signals_test
are_signals [] h = tt
are_signals (n ∷ ns) h =
    let parts = and_parts _ _ h in
    let range = and_parts _ _ parts.0 in
    let low = ltb-true 0 n range.0 in
    let high = ltb-true n 32 range.1 in
    ((omega arith, omega arith), are_signals ns parts.1)

all_numbers : AreSignals numbers
unfolding signals_test
all_numbers = are_signals numbers refl

pub every_number : (m : ℕ) → IsSignal m → among m numbers ≡ true
every_number m signal = grind (arith, upto_sound (λ n. (n == 0) || among n numbers) 32 refl m (omega (arith, signal.1)), ne_eqb m 0 (λ e. omega (arith, signal.0)))

known_signal : (n : ℕ) → IsSignal n → signal_in (atom_of (signal_data n)) ≡ Ok n
known_signal n signal = grind (arith, nat_tests)

one_signal : (b : Bool) (set n : ℕ) (ns : List ℕ) (s : ℕ) → IsSignal n → ((t : ℕ) → gather (adds signal_in with) t (items_in (map signal_data (filter (has set) ns))) ≡ Ok (collected set ns t))
    → gather (adds signal_in with) s (items_in (map signal_data (cond b (n ∷ filter (has set) ns) (filter (has set) ns)))) ≡ Ok (collected set ns (cond b (with s n) s))
one_signal true set n ns s signal more = rw (known_signal n signal) (more (with s n))
one_signal false set n ns s signal more = more s

gathered_signals : (set : ℕ) (ns : List ℕ) (s : ℕ) → AreSignals ns → gather (adds signal_in with) s (items_in (map signal_data (filter (has set) ns))) ≡ Ok (collected set ns s)
gathered_signals set [] s all = refl
gathered_signals set (n ∷ ns) s all = one_signal (has set n) set n ns s all.0 (λ t. gathered_signals set ns t all.1)

-- a set of signals is that of their numbers
pub set_of_numbers : (set : ℕ) → set < 2 ^ 31 → set_of (set_data set) ≡ Ok set
set_of_numbers set low =
    let same : collected set numbers 0 ≡ set = same_sets (collected set numbers 0) set (collected_low set numbers 0 all_numbers (omega arith)) low
    (λ m signal. let is = collected_has set m numbers 0 signal all_numbers in let every = every_number m signal in grind (arith, nat_tests, is, every)) in
    gathered_signals set numbers 0 all_numbers ∙ ap (λ n. Ok n) same
