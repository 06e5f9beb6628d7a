-- A set of keys as a set of their names: each key has a bit of its own.
use Rattle.std.proofs.Common.{◌^◌, ◌*◌, ◌<◌, ◌&&◌, zero, suc, true, nat_eq, slice_get, arith, bit_and, bit_or}
use Rattle.scenario_text.proofs.CommonNames.{◌≡◌, ◌∷◌, [], ℕ, List, Option, Some, None, refl, sym, ap, ◌∙◌, ◌∪◌, Keys, no_members, member, key_named, keys_in, set_named, same_from_bits, bit_at_or}
use Rattle.scenario_text.specs.declared.keys.Key.{Key}
use Rattle.scenario_text.specs.Keys.{key_set, are_among}
use Rattle.scenario_text.specs.Laws.{has, SetOfOne, SetOfBoth, SetOfObject}
use Rattle.std.proofs.lemmas.Bool.Decides.{nat_tests}
use Rattle.std.specs.Int.{bit_at}
use Rattle.scenario_text.specs.declared.keys.Key.TheVariants as key
use Rattle.std.proofs.lemmas.Nat.Bits.{and_pow, bit_at_and, bit_at-lt, bit_at-pow_other, bit_at-pow_same, bit_at-zero}
use Rattle.std.proofs.lemmas.Nat.{pow_pos}

-- tools/format places
abbrev place : Option Key → ℕ
place (Some key.User) = 0
place (Some key.Op) = 1
place (Some key.Caller) = 2
place (Some key.Lwp) = 3
place (Some key.Act) = 4
place (Some key.Which) = 5
place (Some key.Request) = 6
place (Some key.Target) = 7
place (Some key.Data) = 8
place (Some key.Call) = 9
place (Some key.Code) = 10
place (Some key.Signal) = 11
place (Some key.Options) = 12
place (Some key.Action) = 13
place (Some key.Rules) = 14
place (Some key.Set) = 15
place (Some key.Mask) = 16
place (Some key.Flags) = 17
place (Some key.Decision) = 18
place (Some key.Pass) = 19
place None = 20

abbrev keys : List Key
keys =
    key.User ∷ key.Op ∷ key.Caller ∷ key.Lwp ∷ key.Act ∷ key.Which ∷ key.Request ∷ key.Target ∷ key.Data ∷ key.Call
    ∷ key.Code ∷ key.Signal ∷ key.Options ∷ key.Action ∷ key.Rules ∷ key.Set ∷ key.Mask ∷ key.Flags ∷ key.Decision ∷
    key.Pass ∷ []

-- end

-- the key at a place
abbrev key_at : ℕ → Option Key
key_at n = slice_get keys n

single : (o : Option Key) → (set_named o).0 ≡ 2 ^ place o
single o = grind arith

back : (o : Option Key) → key_at (place o) ≡ o
back o = grind arith

-- a key is in a set by its bit
of_bit : (b m : ℕ) → b < 2 → 0 < m → nat_eq (b * m) m ≡ nat_eq b 1
of_bit zero m low some = grind (arith, nat_tests)
of_bit (suc zero) m low some = grind (arith, nat_tests)
of_bit (suc (suc b)) m low some = absurd (omega arith)

has_bit : (a : Keys) (o : Option Key) → are_among a (set_named o) ≡ nat_eq (bit_at a.0 (place o)) 1
has_bit a o = rw (single o, and_pow a.0 (place o)) (of_bit (bit_at a.0 (place o)) (2 ^ place o) (bit_at-lt a.0 (place o)) (pow_pos (place o)))

-- two sets

pub both_had : SetOfBoth
both_had a b name =
    let at = place (key_named name) in
    rw (has_bit (a ∪ b) (key_named name), has_bit a (key_named name), has_bit b (key_named name))
    (grind (arith, nat_tests, bit_at_or a.0 b.0 at, bit_at-lt a.0 at, bit_at-lt b.0 at))

nothing_among : (a : ℕ) → bit_and a 0 ≡ 0
nothing_among a = same_from_bits (bit_and a 0) 0 (λ i. let l = bit_at_and a 0 i in let r = bit_at-zero i in omega (arith, l, r))

module _ (a s t : ℕ) where
  first_among : bit_and a (bit_or s t) ≡ bit_or s t → bit_and a s ≡ s
  first_among e = same_from_bits (bit_and a s) s (λ i.
      let both = ap (λ n. bit_at n i) e in let l = bit_at_and a (bit_or s t) i in let r = bit_at_or s t i in let here = bit_at_and a s i in omega (arith, both, l, r, here))

  second_among : bit_and a (bit_or s t) ≡ bit_or s t → bit_and a t ≡ t
  second_among e = same_from_bits (bit_and a t) t (λ i.
      let both = ap (λ n. bit_at n i) e in let l = bit_at_and a (bit_or s t) i in let r = bit_at_or s t i in let here = bit_at_and a t i in omega (arith, both, l, r, here))

  both_among : bit_and a s ≡ s → bit_and a t ≡ t → bit_and a (bit_or s t) ≡ bit_or s t
  both_among e f = same_from_bits (bit_and a (bit_or s t)) (bit_or s t) (λ i.
      let first = ap (λ n. bit_at n i) e in let second = ap (λ n. bit_at n i) f in
      let l = bit_at_and a (bit_or s t) i in let r = bit_at_or s t i in let x = bit_at_and a s i in let y = bit_at_and a t i in omega (arith, first, second, l, r, x, y))

among_both : (allowed a b : Keys) → are_among allowed (a ∪ b) ≡ (are_among allowed a && are_among allowed b)
among_both allowed a b = grind (arith, nat_tests, first_among allowed.0 a.0 b.0, second_among allowed.0 a.0 b.0, both_among allowed.0 a.0 b.0)

pub all_had : SetOfObject
all_had allowed no_members = grind (arith, nat_tests, nothing_among allowed.0)
all_had allowed (member name d rest) = among_both allowed (set_named (key_named name)) (keys_in rest) ∙ ap (λ more. has allowed name && more) (all_had allowed rest)

-- one key

same_place : (k : Key) (o : Option Key) → nat_eq (bit_at (key_set k).0 (place o)) 1 ≡ true → place o ≡ place (Some k)
same_place k o is = grind (arith, nat_tests, is, single (Some k), bit_at-pow_other (place (Some k)) (place o))

itself : (k : Key) → are_among (key_set k) (key_set k) ≡ true
itself k = has_bit (key_set k) (Some k) ∙ rw (single (Some k), bit_at-pow_same (place (Some k))) refl

pub one_had : SetOfOne
one_had k name = (
  λ is. sym (back (key_named name)) ∙ ap key_at (same_place k (key_named name) (sym (has_bit (key_set k) (key_named name)) ∙ is)) ∙ back (Some k),
  λ named. rw named (itself k),
)

pub ruleset of_sets = (one_had, both_had, all_had)
