use Rattle.byte_lines.proofs.{ReadLemmas.on_err, WriteLemmas.{front_is, front_sliced, front_ended}}
use Rattle.byte_lines.proofs.writing.write_all.Goals as goal

pub returns-in_err-written-clause-err : goal.returns-in_err-written-clause-err
returns-in_err-written-clause-err g c = on_err _ _ (front_ended _ _ _ _ _ c.loop.invariant c.in_err-written.ensures.err)

pub loop-preserved : goal.loop-preserved
loop-preserved g c = front_sliced _ _ _ _ _ c.in_ok-written.written c.loop.invariant c.in_ok-written.ensures.part

pub returns-clause-err : goal.returns-clause-err
returns-clause-err g c = front_is _ _ _ _ c.loop.invariant
