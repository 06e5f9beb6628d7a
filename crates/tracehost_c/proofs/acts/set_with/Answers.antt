use Rattle.std.proofs.{Common.{◌≡◌, ◌≢◌, ◌<◌, ◌^◌, ℕ, ◌+◌, ◌-◌, ◌*◌, ◌/◌, ◌%◌, bit_or, arith, ap, ◌∙◌}, lemmas.Nat.{mod-pow-add, or_comm, or_shifted, pow_pos}}
use Rattle.tracehost_c.proofs.acts.set_with.Goals.{then-bits-place-eq1, else-bits-place-eq1}
use Rattle.tracehost_c.proofs.acts.set_with.Goals as goal

-- the low bits with one more
more : (bits place : ℕ) → bits % 2 ^ (place + 1) ≡ (bits / 2 ^ place % 2) * 2 ^ place + bits % 2 ^ place
more bits place = let e : place + 1 ≡ 1 + place = omega arith in ap (λ k. bits % 2 ^ k) e ∙ mod-pow-add bits 1 place

-- if that bit is 1, it is added
added : (bits set place n new : ℕ) → set ≡ bits % 2 ^ place → bits / 2 ^ place % 2 ≡ 1 → n ≡ place + 1 → new ≡ bit_or set (2 ^ (n - 1)) → new ≡ bits % 2 ^ (place + 1)
added bits set place n new is one at e =
    let low : n - 1 ≡ place = omega arith in
    let below : set < 2 ^ place = let some : 0 < 2 ^ place = pow_pos place in omega arith in
    let both = or_shifted 1 place set below in
    let twice = more bits place in
    e ∙ rw low (grind (arith, both, twice, one, is, or_comm set (1 * 2 ^ place)))

-- if it is 0, nothing is
same : (bits set place new : ℕ) → set ≡ bits % 2 ^ place → bits / 2 ^ place % 2 ≢ 1 → new ≡ set → new ≡ bits % 2 ^ (place + 1)
same bits set place new is other e =
    let none : bits / 2 ^ place % 2 ≡ 0 = omega arith in
    grind (arith, more bits place, none, is, e)

pub loop-place-preserved : goal.loop-place-preserved
loop-place-preserved c = elim c.if-bits-place-eq1.branch [
  | then-bits-place-eq1 w ↦ added c.args.bits c.loop-place.set c.loop-place.place w.signal_at.result _ c.loop-place.invariant w.if-bits-place-eq1.true w.signal_at.ensures (w.set-is ∙ w.with-set.ensures)
  | else-bits-place-eq1 w ↦ same c.args.bits c.loop-place.set c.loop-place.place _ c.loop-place.invariant w.if-bits-place-eq1.false w.set-is
]
