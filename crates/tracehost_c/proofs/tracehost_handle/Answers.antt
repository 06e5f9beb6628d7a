use Rattle.tracehost_c.proofs.tracehost_handle.Goals as goal

pub returns : goal.returns
returns c = rw (← c.handle.ensures) c.make.ensures
