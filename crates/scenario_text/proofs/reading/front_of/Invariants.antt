use Rattle.scenario_text.proofs.CommonNames.{◌-◌, ◌≤◌, vec_len, Consumes}
use Rattle.scenario_text.proofs.reading.front_of.Given as goal

abbrev pub invariant-chunks : goal.invariant-chunks
invariant-chunks g l =
    (vec_len l.bytes ≤ 4194305) × Consumes (g.R.Read.remaining l.initial.reader) (g.R.Read.remaining l.reader) l.bytes.items

abbrev pub decreases-chunks : goal.decreases-chunks
decreases-chunks g l = 4194305 - vec_len l.bytes
