use Rattle.std.proofs.Common.{rules, ap, sym, ◌∙◌, subst, List, ℕ}
use Rattle.std.specs.{Fmt.HasWritten, List.join_with_byte}
use Rattle.step_types.specs.Words.{reply_words, decision_words}
use Rattle.step_types.proofs.Joins.{handled_front, handled_words}
use Rattle.step_types.proofs.printing.ReplyDisplay.fmt.Goals as goal

pub returns-in-Handled-clause-writes : goal.returns-in-Handled-clause-writes
returns-in-Handled-clause-writes g c = λ p ok.
    let a = c.in-Handled in
    let written = handled_front a.pid a.status a.view a.index (join_with_byte 32 (decision_words a.decision)) in
    let wrote : HasWritten g.W.Write.write_str_gives c.args.f.now written c.write-in-Handled.new.self = search rules in
    let Q : List ℕ → Type 0 = λ text. HasWritten g.W.Write.write_str_gives c.args.f.now text c.write-in-Handled.new.self in
    subst Q (handled_words a.pid a.status a.view a.index a.decision ∙ ap (λ r. join_with_byte 32 (reply_words r)) (sym a.is)) wrote
