use Rattle.proc_table.proofs.CommonNames.{ap, ◌∙◌, lwp_count_of}
use Rattle.proc_table.proofs.Seen.{lwps-counted}
use Rattle.proc_table.proofs.tables.Tables.lwp_count_of.Goals as goal

pub returns-clause-count : goal.returns-clause-count
returns-clause-count c = c.user_count.ensures.count ∙ lwps-counted c.args.uid _ c.self.invariant.kept ∙ ap (λ v. lwp_count_of c.args.uid v.rows) c.self.view_is
