-- Lines one after another.
use Rattle.std.proofs.{Common.{◌≡◌, ◌≤◌, ℕ, List, [], ◌∷◌, ◌++◌, length, refl, arith}, lemmas.List.{append_assoc, append-nil, length-append}, Math.Seq.get_or-append_seam}
use Rattle.byte_lines.specs.Lines.{lines_in, NoFeed, end_bytes, WholeLines}
use Rattle.byte_lines.specs.declared.reading.LineEnd.{LineEnd}

-- a line, and then others
pub lines_more : (text xs : List ℕ) → NoFeed text → lines_in (text ++ (10 ∷ xs)) ≡ text ∷ lines_in xs
lines_more [] xs h = refl
lines_more (x ∷ text) xs h = let more = lines_more text xs h.1 in grind (arith, h.0, more)

-- a last line without a line feed
pub lines_last : (x : ℕ) (text : List ℕ) → NoFeed (x ∷ text) → lines_in (x ∷ text) ≡ (x ∷ text) ∷ []
lines_last x [] h = grind (arith, h.0)
lines_last x (y ∷ text) h = let more = lines_last y text h.1 in grind (arith, h.0, more)

-- bytes of no more than a line
pub lines_few : (text : List ℕ) → NoFeed text → length (lines_in text) ≤ 1
lines_few [] h = omega arith
lines_few (x ∷ text) h = grind (arith, lines_last x text h)

pub lines_one : (text : List ℕ) (end : LineEnd) → NoFeed text → length (lines_in (text ++ end_bytes end)) ≤ 1
lines_one text end h = grind (arith, lines_more text [], lines_few, append-nil {A = ℕ})

-- bytes whose lines have all ended: what follows them is lines of its own
abbrev pub Whole : List ℕ → Type 0
Whole bytes = (xs : List ℕ) → lines_in (bytes ++ xs) ≡ lines_in bytes ++ lines_in xs

pub whole_start : Whole []
whole_start xs = refl

pub whole_line : (bytes text : List ℕ) → Whole bytes → NoFeed text → lines_in (bytes ++ (text ++ (10 ∷ []))) ≡ lines_in bytes ++ (text ∷ [])
whole_line bytes text w h = grind (arith, w, lines_more text [] h)

pub whole_more : (bytes text : List ℕ) → Whole bytes → NoFeed text → Whole (bytes ++ (text ++ (10 ∷ [])))
whole_more bytes text w h xs = grind (arith, w, lines_more text [] h, lines_more text xs h, append_assoc {A = ℕ}, append_assoc {A = List ℕ})

-- a line feed at the end
pub feed_last : (bytes text : List ℕ) → WholeLines (bytes ++ (text ++ (10 ∷ [])))
feed_last bytes text some = grind (arith, append_assoc {A = ℕ}, length-append {A = ℕ}, get_or-append_seam (bytes ++ text) 10 [] 0)
