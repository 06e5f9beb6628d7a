use Rattle.scenario_text.proofs.CommonNames.{length, Members, AreRead}
use Rattle.scenario_text.proofs.ReadLoops.{HasMembers}
use Rattle.scenario_text.proofs.parsing.read_scenario_members.Given as goal

abbrev pub invariant-members : goal.invariant-members
invariant-members l = (found : Members) × HasMembers l.depth l.initial.reader l.reader found × AreRead l.steps l.kill l.is_alone found

abbrev pub decreases-members : goal.decreases-members
decreases-members l = length l.reader
