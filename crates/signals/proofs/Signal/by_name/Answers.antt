use Rattle.signals.proofs.CommonNames.{◌≡◌, ◌+◌, ◌-◌, ℕ, Bool, false, arith, ap, sym, ◌∙◌, rules, nat_eq, find, range_with_len, pointwise, signal_name}
use Rattle.signals.proofs.Rising.{find-over, find-here}
use Rattle.signals.proofs.Signal.by_name.Goals as goal

pub returns-then-eq : goal.returns-then-eq
returns-then-eq c = search (rules, find-here)

pub loop-number-preserved : goal.loop-number-preserved
loop-number-preserved c =
    let n = c.loop-number.number in
    let p : ℕ → Bool = λ n. pointwise nat_eq (signal_name n) c.args.name.now in
    let other : p n ≡ false = ap (λ text. pointwise nat_eq text c.args.name.now) (sym c.name.ensures) ∙ (sym c.eq.ensures ∙ c.if-eq.false) in
    let less : 32 - n - 1 ≡ 32 - (n + 1) = omega arith in
    record {
      least = omega arith;
      rest = c.loop-number.invariant.rest ∙ (find-over p n (32 - n) (omega arith) other ∙ ap (λ left. find p (range_with_len (n + 1) left)) less);
    }
