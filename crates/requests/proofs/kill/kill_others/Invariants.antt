use Rattle.requests.proofs.CommonNames.{◌≡◌, negsuc, IsSound, reach, reached, Reply}
use Rattle.requests.proofs.KillReaches.{post_rest, left}
use Rattle.requests.proofs.kill.kill_others.Given as goal

abbrev pub invariant-loop-at : goal.invariant-loop-at
invariant-loop-at l = record {
  sound : IsSound l.tables.rows;
  done : (reached l.settings l.pass (reach l.user l.caller (negsuc 0) l.fn.tables.rows) l.fn.tables.rows).reply ≡ Reply.Done;
  goes : (reached l.settings l.pass (reach l.user l.caller (negsuc 0) l.fn.tables.rows) l.fn.tables.rows).rows ≡ post_rest l.settings l.pass l.user l.caller l.at l.tables.rows;
}

abbrev pub decreases-loop-at : goal.decreases-loop-at
decreases-loop-at l = left l.at
