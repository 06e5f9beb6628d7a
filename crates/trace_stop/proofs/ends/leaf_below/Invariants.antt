use Rattle.trace_stop.proofs.CommonNames.{ℕ, ◌-◌, length, chain, EndsToo}
use Rattle.trace_stop.proofs.ends.leaf_below.Given as goal

abbrev pub invariant-loop-tracee : goal.invariant-loop-tracee
invariant-loop-tracee l = (p : ℕ) → EndsToo p l.tables.rows l.fn.from → EndsToo p l.tables.rows l.at

abbrev pub decreases-loop-tracee : goal.decreases-loop-tracee
decreases-loop-tracee l = 250 - length (chain 250 l.tables.rows.processes l.at)
