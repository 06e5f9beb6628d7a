use Rattle.trace_stop.proofs.CommonNames.{◌≡◌, true, count_by, is_live, end, IsSound, is_live_at, kills, EndsToo}
use Rattle.trace_stop.proofs.ends.end_with_tracees.Given as goal

-- p is still to end, and its end makes what it would have made at first
abbrev pub invariant-loop-leaf : goal.invariant-loop-leaf
invariant-loop-leaf l = record {
  sound : IsSound l.tables.rows;
  live : is_live_at l.pid l.tables.rows ≡ true;
  ends : EndsToo l.pid l.tables.rows l.at;
  rows : end kills l.pid l.status l.tables.rows ≡ end kills l.pid l.status l.fn.tables.rows;
}

abbrev pub decreases-loop-leaf : goal.decreases-loop-leaf
decreases-loop-leaf l = count_by is_live l.tables.rows.processes
