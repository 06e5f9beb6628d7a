use Rattle.tracehost_c.proofs.tracehost_list.Goals as goal

pub returns : goal.returns
returns c = rw (← c.list.ensures) c.make.ensures
