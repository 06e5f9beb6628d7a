use Rattle.{std.proofs.Common.[], requests.specs.Machine.empty, open_sessions.proofs.ScenarioLemmas.lines_of_scenario}
use Rattle.open_sessions.proofs.laws.as_scenario.Goals as goal

pub returns : goal.returns
returns c style settings lines steps rs k are answers left = lines_of_scenario style [] lines steps (empty settings) rs k are answers left
