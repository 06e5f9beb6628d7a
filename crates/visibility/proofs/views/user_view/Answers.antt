use Rattle.visibility.proofs.CommonNames.{◌==◌, owns}
use Rattle.proc_table.proofs.Lwps.{Differ-filter}
use Rattle.proc_table.proofs.Rising.{once, Rise-filter}
use Rattle.visibility.proofs.views.user_view.Goals as goal

pub returns-clause-differ : goal.returns-clause-differ
returns-clause-differ g c =
    let kept = c.assert_invariant.ensures in
    record {
      processes = rw c.in_ok-processes_of.ensures (once _ (Rise-filter (λ p. p.uid == c.args.user) _ kept.rising));
      lwps = rw c.in_ok-lwps_of.ensures (Differ-filter (λ l. owns c.args.user l.pid c.tables-tables.result.now.rows.processes) _ kept.differ);
    }
