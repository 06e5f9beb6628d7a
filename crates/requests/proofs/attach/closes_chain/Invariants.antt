use Rattle.requests.proofs.CommonNames.{◌≡◌, ◌-◌, meets}
use Rattle.requests.proofs.attach.closes_chain.Given as goal

-- what is left of the links gives the answer of the whole
abbrev pub invariant-loop-links : goal.invariant-loop-links
invariant-loop-links l = meets (250 - l.links) l.tables.rows.processes l.pid l.at ≡ meets 250 l.tables.rows.processes l.pid l.fn.from
