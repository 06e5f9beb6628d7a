use Rattle.{std.{proofs.{Common.{◌/◌, ◌%◌, ap, sym, ◌∙◌, arith, nat_eq, w64}, lemmas.Nat.Bits.{bit_at_set_same, bit_at_set_other, bit_at_clear_same, bit_at_clear_other}}}, proc_table.specs.Members.{word_at}}
use Rattle.proc_table.proofs.Bits.{member-here, member-others}
use Rattle.proc_table.proofs.bit_sets.NumberSet.put.Goals.{then-is_member, else-is_member}
use Rattle.proc_table.proofs.bit_sets.NumberSet.put.Goals as goal

pub returns-clause-here : goal.returns-clause-here
returns-clause-here c =
    let old = word_at c.args.self.now.pages (c.args.number / 64) in
    elim c.if-is_member.branch [
      | then-is_member w ↦ member-here c.set_word.new.self.pages c.args.number _ c.set_word.ensures.word ∙ rw (w.set_word-is, c.word-word.ensures) (ap (λ d. nat_eq d 1) (bit_at_set_same w64 old (c.args.number % 64) (omega arith)) ∙ sym w.if-is_member.true)
      | else-is_member w ↦ member-here c.set_word.new.self.pages c.args.number _ c.set_word.ensures.word ∙ rw (w.set_word-is, c.word-word.ensures) (ap (λ d. nat_eq d 1) (bit_at_clear_same w64 old (c.args.number % 64) (omega arith)) ∙ sym w.if-is_member.false)
    ]

pub returns-clause-others : goal.returns-clause-others
returns-clause-others c =
    let old = word_at c.args.self.now.pages (c.args.number / 64) in
    elim c.if-is_member.branch [
      | then-is_member w ↦ member-others c.args.self.now.pages c.set_word.new.self.pages c.args.number _ c.set_word.ensures.word c.set_word.ensures.others
          (λ i below apart. rw (w.set_word-is, c.word-word.ensures) (ap (λ d. nat_eq d 1) (bit_at_set_other w64 old (c.args.number % 64) (omega arith) i apart)))
      | else-is_member w ↦ member-others c.args.self.now.pages c.set_word.new.self.pages c.args.number _ c.set_word.ensures.word c.set_word.ensures.others
          (λ i below apart. rw (w.set_word-is, c.word-word.ensures) (ap (λ d. nat_eq d 1) (bit_at_clear_other w64 old (c.args.number % 64) (omega arith) i (omega arith) apart)))
    ]
