use Rattle.proc_table.proofs.CommonNames.{ap, ◌∙◌, filter, owns}
use Rattle.proc_table.proofs.Seen.{lwps-chosen}
use Rattle.proc_table.proofs.tables.Tables.lwps_of_user.Goals as goal

pub returns-clause-rows : goal.returns-clause-rows
returns-clause-rows c = c.of_user.ensures.rows ∙ lwps-chosen c.args.uid _ c.self.invariant.kept ∙ ap (λ v. filter (λ l. owns c.args.uid l.pid v.rows.processes) v.rows.lwps) c.self.view_is
