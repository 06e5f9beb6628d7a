use Rattle.{std.proofs.Common.{Ok, ap, refl, ◌∙◌, arith}, scenario_runs.proofs.LineLemmas.{counted_start}, open_sessions.proofs.LineAnswers.serves_by}
use Rattle.open_sessions.proofs.{TalkLemmas.{start, cannot_read, ends_now, ends_last, fails, goes_on, too_many, lost_feed}}
use Rattle.open_sessions.proofs.serving.answer_all.Goals as goal

pub loop-init : goal.loop-init
loop-init g c = start _ _ _ _ _ _ refl (rw c.requires counted_start)

pub returns-in_err-end-clause-serves : goal.returns-in_err-end-clause-serves
returns-in_err-end-clause-serves g c =
    let lost = c.in_err-end.ensures.err in
    serves_by _ _ _ _ _ _ _ _ c.from_residual.ensures.1 (cannot_read _ _ _ _ _ _ _ _ _ c.loop.invariant _ _ c.in_err-end.ensures.kind lost.0 lost.1)

pub returns-in_default-clause-serves : goal.returns-in_default-clause-serves
returns-in_default-clause-serves g c =
    ends_now _ _ _ _ _ _ _ _ _ c.loop.invariant _ (c.next_line.ensures.none (c.in_ok-end.was ∙ ap Ok c.in_default.is)) (c.in_ok-end.ensures.end (λ feed. cc (c.in_default.is, feed)))

pub returns-in_err-answer_read-clause-serves : goal.returns-in_err-answer_read-clause-serves
returns-in_err-answer_read-clause-serves g c =
    let found = rw c.in-Some.is at c.in_ok-end.ensures.line in
    let told = rw (c.as_slice.ensures.value, found.2) at c.in_err-answer_read.ensures in
    serves_by _ _ _ _ _ _ _ _ c.from_residual-in_err-answer_read.ensures.1
    (fails _ _ _ _ _ _ _ _ _ c.loop.invariant _ found.0 c.in-Some.end found.1 c.answer_read.new.session.host c.answer_read.new.session.made (g.W.Write.contents c.answer_read.new.writer)
    c.in_err-answer_read.field-0.0 (omega arith) found.3 (λ input. c.in_ok-end.ensures.end (λ feed. cc (c.in-Some.is, input, feed))) told)

pub returns-in-Input-clause-serves : goal.returns-in-Input-clause-serves
returns-in-Input-clause-serves g c =
    let found = rw c.in-Some.is at c.in_ok-end.ensures.line in
    let told = rw (c.as_slice.ensures.value, found.2) at c.in_ok-answer_read.ensures in
    ends_last _ _ _ _ _ _ _ _ _ c.loop.invariant _ found.0 c.in-Some.end found.1 c.answer_read.new.session.host c.answer_read.new.session.made (g.W.Write.contents c.answer_read.new.writer)
    found.3 told (c.in_ok-end.ensures.end (λ feed. cc (c.in-Some.is, c.in-Input.is, feed)))

pub loop-preserved : goal.loop-preserved
loop-preserved g c =
    let found = rw c.in-Some.is at c.in_ok-end.ensures.line in
    let told = rw (c.as_slice.ensures.value, found.2) at c.in_ok-answer_read.ensures in
    goes_on _ _ _ _ _ _ _ _ _ c.loop.invariant _ found.0 (lost_feed _ _ found.0 c.in-Some.end c.in_default-end.not-Input found.1) c.answer_read.new.session.host c.answer_read.new.session.made
    (g.W.Write.contents c.answer_read.new.writer) told

pub returns-clause-serves : goal.returns-clause-serves
returns-clause-serves g c = too_many _ _ _ _ _ _ _ _ _ c.loop.invariant (g.R.Read.remaining c.loop.reader) (omega arith)
