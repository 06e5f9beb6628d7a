use Rattle.{std.proofs.{Common.{List, ℕ, [], ◌++◌, subst, inr, arith}, lemmas.List.length-take}, byte_lines.{specs.Lines.{Loses, part_end}, proofs.ReadLemmas.{on_err, loses_more, loses_none, kept_parts, longer, endless}}}
use Rattle.byte_lines.proofs.reading.read_line.Goals as goal

pub returns-in_err-end-clause-err : goal.returns-in_err-end-clause-err
returns-in_err-end-clause-err g c =
    let at = c.loop.invariant in
    let lost : (text : List ℕ) × Loses (g.R.Read.remaining c.args.reader.now) (g.R.Read.remaining c.take_part.new.reader) text [] =
    (at.text, loses_none _ _ _ _ at.lost c.in_err-end.ensures.err) in
    on_err _ _ lost

pub returns-in-Some-clause-line : goal.returns-in-Some-clause-line
returns-in-Some-clause-line g c =
    let at = c.loop.invariant in
    let part = c.in_ok-end.ensures.part in (
      at.text ++ part.0,
      loses_more _ _ _ _ _ _ at.lost (subst (λ e. Loses (g.R.Read.remaining c.loop.reader) (g.R.Read.remaining c.take_part.new.reader) part.0 (part_end e)) c.in-Some.is part.1),
      kept_parts _ _ _ _ _ at.kept part.2,
    )

pub loop-preserved : goal.loop-preserved
loop-preserved g c =
    let at = c.loop.invariant in
    let part = c.in_ok-end.ensures.part in
    let kept = kept_parts _ _ _ _ _ at.kept part.2 in
    record {
      few = let long = length-take c.args.most (at.text ++ part.0) in rw kept (omega arith);
      text = at.text ++ part.0;
      lost = loses_more _ _ _ _ _ _ at.lost (subst (λ e. Loses (g.R.Read.remaining c.loop.reader) (g.R.Read.remaining c.take_part.new.reader) part.0 (part_end e)) c.in_default.is part.1);
      kept = kept;
      long = longer _ _ at.text part.0 at.long (part.3 c.in_default.is);
    }

pub returns-clause-failed : goal.returns-clause-failed
returns-clause-failed g c = let at = c.loop.invariant in inr (endless _ _ _ _ at.text (omega arith) at.lost at.long)
