use Rattle.std.proofs.Common.{ap, sym, ◌∙◌}
use Rattle.std.specs.Prelude.{is_some}
use Rattle.lwp_table.proofs.Numbered.{any-found}
use Rattle.test_surface.proofs.tables.is_of.Goals as goal

pub returns : goal.returns
returns c = rw (← c.get.ensures.number) (c.is_some.ensures ∙ ap is_some c.visible_process.ensures.row ∙ sym (any-found _ c.args.tables.now.rows.processes))
