use Rattle.{std.proofs.{Common.{◌≡◌, ◌+◌, ◌-◌, arith, ap, sym, ◌∙◌, inl, inr}, lemmas.Bool.cases_lt}, pid_blocks.{specs.Blocks.first_free, proofs.FirstFree.{first_free-over, first_free-here}}}
use Rattle.pid_blocks.proofs.blocks.first_free.Goals as goal

pub returns-then-not-taken-clause-exact : goal.returns-then-not-taken-clause-exact
returns-then-not-taken-clause-exact g c = λ test decides.
    let at = sym (decides c.loop-number.number c.taken.result (omega arith) (omega arith) c.taken.ensures) ∙ c.if-not-taken.true in
    sym (c.loop-number.invariant.rest test decides ∙ first_free-here test _ _ (omega arith) at)

pub loop-number-preserved : goal.loop-number-preserved
loop-number-preserved g c = record {
  rest = λ test decides.
      let at = sym (decides c.loop-number.number c.taken.result (omega arith) (omega arith) c.taken.ensures) ∙ c.if-not-taken.false in
      let less : c.args.end - c.loop-number.number - 1 ≡ c.args.end - (c.loop-number.number + 1) = omega arith in
      c.loop-number.invariant.rest test decides ∙ (first_free-over test _ _ (omega arith) at ∙ ap (λ left. first_free test left (c.loop-number.number + 1)) less);
  before = λ n low high. elim (cases_lt n c.loop-number.number) [
    | inl before ↦ c.loop-number.invariant.before n low before
    | inr after ↦ let here : c.loop-number.number ≡ n = omega arith in rw here at c.if-not-taken.ensures
  ];
}
