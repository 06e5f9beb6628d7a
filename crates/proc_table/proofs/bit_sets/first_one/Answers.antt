use Rattle.{std.{proofs.{Common.{◌-◌, ◌/◌, ◌^◌, ap, sym, ◌∙◌, arith, w64}, lemmas.Nat.Bits.{bit_at-trailing_zeros, bit_at-zero}}, specs.Int.trailing_zeros}, proc_table.specs.Members.has_bit}
use Rattle.proc_table.proofs.Bits.{has_bit-shifted, has_bit-one, has_bit-none, has_bit-up, has_bit-below}
use Rattle.proc_table.proofs.bit_sets.first_one.Goals as goal

pub returns-then-rest-eq0-clause-none : goal.returns-then-rest-eq0-clause-none
returns-then-rest-eq0-clause-none c = λ i low high.
    has_bit-up c.args.word c.args.from i low ∙ ap (λ x. has_bit x (i - c.args.from)) c.if-rest-eq0.true
    ∙ has_bit-none 0 (i - c.args.from) (bit_at-zero (i - c.args.from))

pub returns-else-rest-eq0-clause-some : goal.returns-else-rest-eq0-clause-some
returns-else-rest-eq0-clause-some c =
    let rest = c.args.word / 2 ^ c.args.from in
    let lowest = bit_at-trailing_zeros w64 rest (omega arith) (omega arith) in
    let there = sym (has_bit-shifted c.args.word c.args.from (trailing_zeros w64 rest)) ∙ has_bit-one rest (trailing_zeros w64 rest) lowest.1 in (
      omega arith,
      has_bit-below c.args.word _ (omega arith) there,
      there,
      λ i low high. has_bit-up c.args.word c.args.from i low ∙ has_bit-none rest (i - c.args.from) (lowest.2 (i - c.args.from) (omega arith)),
    )
