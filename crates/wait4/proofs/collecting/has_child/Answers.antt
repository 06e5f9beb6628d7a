use Rattle.std.proofs.Common.{arith}
use Rattle.wait4.proofs.Candidates.{whole-any, whole-numbered}
use Rattle.wait4.proofs.collecting.has_child.Goals as goal

pub returns-then-is_some : goal.returns-then-is_some
returns-then-is_some c = grind (arith, whole-any c.args.caller c.args.which c.ranges.which c.args.tables.now.rows c.first_related.ensures.kept.in_own_blocks c.if-which-eqminus1.true)

pub returns-else-is_some : goal.returns-else-is_some
returns-else-is_some c = grind (arith, whole-any c.args.caller c.args.which c.ranges.which c.args.tables.now.rows c.first_related.ensures.kept.in_own_blocks c.if-which-eqminus1.true)

pub returns : goal.returns
returns c = grind (arith, whole-numbered c.args.caller c.args.which c.ranges.which c.args.tables.now.rows c.child_by_number.ensures.kept.rising c.if-which-eqminus1.false)
