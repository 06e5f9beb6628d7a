use Rattle.scenario_text.proofs.CommonNames.{◌≡◌, length, Members, rule_fields_in}
use Rattle.scenario_text.proofs.ReadLoops.{HasMembers}
use Rattle.scenario_text.proofs.rules.read_rule_fields.Given as goal

abbrev pub invariant-members : goal.invariant-members
invariant-members l = (found : Members) × HasMembers l.depth l.initial.reader l.reader found × (l.fields ≡ rule_fields_in found)

abbrev pub decreases-members : goal.decreases-members
decreases-members l = length l.reader
