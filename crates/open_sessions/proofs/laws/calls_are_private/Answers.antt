use Rattle.{std.proofs.Common.map, visibility.{specs.Runs.reply_given, proofs.Answered.runs_are_private}, open_sessions.{specs.Laws.replies_in, proofs.LawLemmas.found}}
use Rattle.open_sessions.proofs.laws.calls_are_private.Goals as goal

pub returns : goal.returns
returns c calls s t rs apart answers =
    let at = found calls s t rs answers in
    (at.steps, at.are, runs_are_private at.steps (map (λ r. reply_given r) (replies_in rs)) s.host t.host at.users apart at.ran)
