-- Rows that are written over the front of a room, one after another.
use Rattle.std.proofs.{Common.{◌≡◌, ℕ, ◌+◌, ◌<◌, min, List, ◌++◌, length, get_or, set, take, drop, map, arith, drop-cons, length-take, take_all, append_assoc, add-one}}
use Rattle.std.proofs.{lemmas.List.{get_or-map, length-map, set-append_right, take_more, drop_all}}
use Rattle.open_sessions.specs.Answers.{shown}

-- the next row is written as f of it
pub more : {R X : Type 0} (f : R → X) (rows : List R) (room now : List X) (i : ℕ) (d : R) (v : X) → i < length rows → i < length room
    → now ≡ take i (map f rows) ++ drop i room → v ≡ f (get_or rows i d) → set now i v ≡ take (i + 1) (map f rows) ++ drop (i + 1) room
more {R} {X} f rows room now i d v within fits is made =
    let below : i < length (map f rows) = omega (arith, length-map rows f) in
    grind (arith, set-append_right (take i (map f rows)) (drop i room) i i v, drop-cons room i v, take_more (map f rows) i v below, get_or-map f rows i d v within, length-take i (map f rows), append_assoc {A = X}, add-one i)

-- the rows that fit are written
pub all : {R X : Type 0} (f : R → X) (rows : List R) (room now : List X) (n : ℕ) → n ≡ min (length rows) (length room)
    → now ≡ take n (map f rows) ++ drop n room → now ≡ shown (map f rows) room
all f rows room now n at is = grind (arith, length-map rows f, take_all (length room) (map f rows), take_all n (map f rows), drop_all (length (map f rows)) room, drop_all n room)
