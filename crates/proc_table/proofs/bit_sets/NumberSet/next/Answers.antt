use Rattle.{std.proofs.{Common.{arith, inl, inr}, lemmas.Bool.cases_lt}, proc_table.proofs.Bits.{next-here, next-before}}
use Rattle.proc_table.proofs.bit_sets.NumberSet.next.Goals as goal

pub returns-then-number-end-clause-some : goal.returns-then-number-end-clause-some
returns-then-number-end-clause-some c =
    let pages = c.args.self.now.pages in
    let found = rw c.word.ensures at c.in-Some.ensures.some in (
      omega (arith, found.0),
      c.if-number-end.true,
      next-here pages c.loop-at.at c.in-Some.place found.1 found.2,
      λ n low high. elim (cases_lt n c.loop-at.at) [
        | inl before ↦ c.loop-at.invariant.before n low before
        | inr after ↦ next-before pages c.loop-at.at c.in-Some.place found.1 found.3 n after high
      ],
    )
