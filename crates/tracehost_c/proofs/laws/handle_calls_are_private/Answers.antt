use Rattle.tracehost_c.{specs.Laws.{answered_calls}, proofs.LawLemmas.{composed}}
use Rattle.tracehost_c.proofs.laws.handle_calls_are_private.Goals as goal

pub returns : goal.returns
returns c calls codes s new apart made =
    let all = composed calls codes s new made in
    record {
      session = all.session;
      answers = all.answers;
      open_still = all.open_still;
      answered = all.answered;
      own = c.calls_are_private.ensures (answered_calls calls codes) s all.session all.answers apart all.answered;
    }
