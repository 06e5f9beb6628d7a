use Rattle.trace_rows.proofs.laws.ends_are_apart.Goals as goal
use Rattle.trace_rows.proofs.SoundRowsAreApart.{own_end, other_end}

pub returns-clause-own : goal.returns-clause-own
returns-clause-own c settings rows u p status s is = own_end settings rows u p status s is

pub returns-clause-others : goal.returns-clause-others
returns-clause-others c settings rows u w p status s is = other_end settings rows u p status s is w
