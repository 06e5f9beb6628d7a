-- Parts of a line, one after another.
use Rattle.std.proofs.{Common.{◌≡◌, ◌≤◌, ◌<◌, ◌⊎◌, inl, inr, ◌-◌, ◌+◌, ℕ, min, List, [], ◌∷◌, ◌++◌, length, take, Option, None, Some, ◌^◌, arith, take_all, take-take, length-take}, Math.Seq.{take-append-add, take-append-le}}
use Rattle.{std.{proofs.lemmas.List.{append_assoc, append-nil, length-append}, specs.{Prelude.{Result, OnErr}, Io.KnownBytes.Consumes}}, byte_lines.specs.Lines.{NoFeed, Loses, IsEndless}}

pub on_err : {X E : Type 0} (r : Result X E) (P : Type 0) → P → OnErr r P
on_err r P p = grind arith

pub consumes_more : (a b c : Option (List ℕ)) (xs ys : List ℕ) → Consumes a b xs → Consumes b c ys → Consumes a c (xs ++ ys)
consumes_more a b c xs ys p q = grind (arith, append_assoc {A = ℕ})

pub no_feed_more : (xs ys : List ℕ) → NoFeed xs → NoFeed ys → NoFeed (xs ++ ys)
no_feed_more [] ys p q = q
no_feed_more (x ∷ xs) ys p q = (p.0, no_feed_more xs ys p.1 q)

-- a part after another one
pub loses_more : (a b c : Option (List ℕ)) (xs ys end : List ℕ) → Loses a b xs [] → Loses b c ys end → Loses a c (xs ++ ys) end
loses_more a b c xs ys end p q = (no_feed_more xs ys p.0 q.0, grind (arith, p.1, q.1, append_assoc {A = ℕ}, append-nil {A = ℕ}))

pub loses_none : (a b c : Option (List ℕ)) (xs : List ℕ) → Loses a b xs [] → Consumes b c [] → Loses a c xs []
loses_none a b c xs p q = (p.0, grind (arith, p.1, append_assoc {A = ℕ}, append-nil {A = ℕ}))

-- what is kept of a part, with what was kept before
pub kept_part : (old shown : List ℕ) (most before kept : ℕ) → length old ≤ most → kept ≡ min before (most - length old) → old ++ take kept shown ≡ take most (old ++ take before shown)
kept_part old shown most before kept few is = grind (arith, take-append-add {A = ℕ}, take_all {A = ℕ}, take-take {A = ℕ}, length-take {A = ℕ})

-- what is kept of a line, part by part
pub kept_more : (most : ℕ) (xs ys : List ℕ) → take most (take most xs ++ ys) ≡ take most (xs ++ ys)
kept_more most xs ys = grind (arith, take-append-le {A = ℕ}, take_all {A = ℕ}, take-take {A = ℕ}, length-take {A = ℕ})

pub kept_parts : (most : ℕ) (line new xs ys : List ℕ) → line ≡ take most xs → new ≡ take most (line ++ ys) → new ≡ take most (xs ++ ys)
kept_parts most line new xs ys p q = grind (arith, kept_more)

-- parts of at least a byte each, one after another
pub longer : (P : Type 0) (n : ℕ) (xs ys : List ℕ) → P ⊎ (n ≤ length xs) → P ⊎ (0 < length ys) → P ⊎ (n + 1 ≤ length (xs ++ ys))
longer P n xs ys (inl p) more = inl p
longer P n xs ys (inr long) (inl p) = inl p
longer P n xs ys (inr long) (inr some) = inr (grind (arith, length-append xs ys, long, some))

-- a reader that gave so many bytes had them
pub endless : (P : Type 0) (a b : Option (List ℕ)) (n : ℕ) (xs : List ℕ) → n ≡ 2 ^ 64 - 1 → Loses a b xs [] → P ⊎ (n ≤ length xs) → P ⊎ IsEndless a
endless P a b n xs all lost (inl p) = inl p
endless P None b n xs all lost (inr long) = inr tt
endless P (Some ys) None n xs all lost (inr long) = absurd lost.1
endless P (Some ys) (Some zs) n xs all lost (inr long) = inr (grind (arith, length-append {A = ℕ}, lost.1, long, all))
