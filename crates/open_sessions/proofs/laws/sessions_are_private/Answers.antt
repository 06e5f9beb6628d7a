use Rattle.{std.proofs.Common.map, requests.specs.Machine.empty, visibility.{specs.Runs.reply_given, proofs.{Answered.runs_are_private, Apart.users_are_apart_at_first}}}
use Rattle.{open_sessions.specs.Laws.replies_in, open_sessions.proofs.ScenarioLemmas.found}
use Rattle.open_sessions.proofs.laws.sessions_are_private.Goals as goal

pub returns : goal.returns
returns c settings lines rs k answers =
    let at = found lines (empty settings) rs k answers in
    (at.steps, at.are, runs_are_private at.steps (map (λ r. reply_given r) (replies_in rs)) (empty settings) k at.users (users_are_apart_at_first settings) at.ran)
