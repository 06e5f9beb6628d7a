-- Words written one after another, each after its separator.
use Rattle.std.proofs.Common.{◌≡◌, ℕ, ◌+◌, ◌<◌, Bool, true, false, List, [], ◌∷◌, ◌++◌, length, drop, get_or, map, filter, refl, arith}
use Rattle.std.proofs.Common.{Bor, ◌==◌}
use Rattle.std.specs.Int.RustNames.{bit_and}
use Rattle.std.specs.List.{flat_map}
use Rattle.std.proofs.lemmas.List.{append_assoc, at_drop_more}
use Rattle.event_masks.specs.Names.{joined, named_bit}

-- the text that is left to write: before the first word, `none` if there is none; else the words, each after `between`
abbrev pub ending : List ℕ → List ℕ → Bool → List (List ℕ) → List ℕ
ending none between true ws = joined none between ws
ending none between false ws = flat_map (λ w. between ++ w) ws

-- the words of those that pass a test
abbrev pub chosen : {X : Type 0} → (X → Bool) → (X → List ℕ) → List X → List (List ℕ)
chosen test text xs = map text (filter test xs)

-- the text before a word
abbrev pub separator : List ℕ → Bool → List ℕ
separator between true = []
separator between false = between

one_more : (none between : List ℕ) (empty : Bool) (w : List ℕ) (ws : List (List ℕ)) → ending none between empty (w ∷ ws) ≡ separator between empty ++ (w ++ ending none between false ws)
one_more none between true w ws = refl
one_more none between false w ws = append_assoc between w (flat_map (λ v. between ++ v) ws)

-- one that fails the test is passed over
pub passed_over : {X : Type 0} (none between : List ℕ) (empty : Bool) (test : X → Bool) (text : X → List ℕ) (xs : List X) (last : List (List ℕ)) (i : ℕ) (d : X) (done all : List ℕ)
    → i < length xs → test (get_or xs i d) ≡ false
    → done ++ ending none between empty (chosen test text (drop i xs) ++ last) ≡ all
    → done ++ ending none between empty (chosen test text (drop (i + 1) xs) ++ last) ≡ all
passed_over none between empty test text xs last i d done all h fails before = grind (arith, at_drop_more (λ ys. ending none between empty (chosen test text ys ++ last)) xs i d h)

-- one that passes it is written
pub one_written : {X : Type 0} (none between : List ℕ) (empty after : Bool) (test : X → Bool) (text : X → List ℕ) (xs : List X) (last : List (List ℕ)) (i : ℕ) (d : X) (done all : List ℕ)
    → i < length xs → test (get_or xs i d) ≡ true
    → done ++ ending none between empty (chosen test text (drop i xs) ++ last) ≡ all
    → after ≡ false
    → (done ++ (separator between empty ++ text (get_or xs i d))) ++ ending none between after (chosen test text (drop (i + 1) xs) ++ last) ≡ all
one_written none between empty after test text xs last i d done all h passes before is = grind (arith, at_drop_more (λ ys. ending none between empty (chosen test text ys ++ last)) xs i d h, one_more, append_assoc {A = ℕ})

-- the names of the flags of a set, from references to them
pub flag_names : (bits : ℕ) (ns : List (Bor (List ℕ) × ℕ)) → chosen (λ n. bit_and bits n.1 == n.1) (λ n. n.0.now) ns ≡ map (λ n. n.0) (filter (λ n. bit_and bits n.1 == n.1) (map named_bit ns))
flag_names bits [] = refl
flag_names bits (n ∷ ns) = let more = flag_names bits ns in grind (arith, more)
