use Rattle.visibility.proofs.CommonNames.{◌≡◌, ◌++◌, filter, owns}
use Rattle.visibility.proofs.views.lwps_of.Given as goal

abbrev pub invariant-loop-l : goal.invariant-loop-l
invariant-loop-l l = l.rows.items ++ l.l-iterator ≡ filter (λ w. owns l.fn.user w.pid l.tables.rows.processes) l.tables.rows.lwps
