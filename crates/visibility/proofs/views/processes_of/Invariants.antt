use Rattle.visibility.proofs.CommonNames.{◌≡◌, ◌++◌, ◌-◌, ◌<◌, ◌==◌, of_user, above}
use Rattle.visibility.proofs.views.processes_of.Given as goal

abbrev pub invariant-loop-p : goal.invariant-loop-p
invariant-loop-p l = record {
  below : l.after < 65000;
  listed : l.rows.items ++ above (λ p. p.uid == l.user) l.after l.tables.rows.processes ≡ of_user l.user l.tables.rows.processes;
}

abbrev pub decreases-loop-p : goal.decreases-loop-p
decreases-loop-p l = 65000 - l.after
