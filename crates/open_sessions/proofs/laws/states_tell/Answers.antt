use Rattle.open_sessions.proofs.ViewWordLemmas.{words_tell}
use Rattle.open_sessions.proofs.laws.states_tell.Goals as goal

pub returns : goal.returns
returns c = words_tell
