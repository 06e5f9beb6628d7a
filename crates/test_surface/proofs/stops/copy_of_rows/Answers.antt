use Rattle.std.proofs.Common.{rules}
use Rattle.test_surface.proofs.Found.{copied_sound}
use Rattle.test_surface.proofs.stops.copy_of_rows.Goals as goal

pub returns : goal.returns
returns c = copied_sound c.args.host.now c.in_ok-tables.tables.rows c.assert_invariant.ensures (search rules)
