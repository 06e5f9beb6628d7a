use Rattle.requests.proofs.CommonNames.{◌≡◌, ◌++◌, ◌-◌, ◌<◌, ◌==◌, of_user}
use Rattle.requests.proofs.ProcessesAbove.{above, pids}
use Rattle.requests.proofs.list.pids_of.Given as goal

abbrev pub invariant-loop-pid : goal.invariant-loop-pid
invariant-loop-pid l = record {
  below : l.after < 65000;
  listed : l.pids.items ++ pids (above (λ p. p.uid == l.user) l.after l.tables.rows.processes) ≡ pids (of_user l.user l.tables.rows.processes);
}

abbrev pub decreases-loop-pid : goal.decreases-loop-pid
decreases-loop-pid l = 65000 - l.after
