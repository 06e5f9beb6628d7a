use Rattle.tracehost_c.proofs.tracehost_install.Goals as goal

pub returns-in-Some : goal.returns-in-Some
returns-in-Some c = rw (← c.in-Some.ensures, ← c.install.ensures) c.make.ensures

pub returns-in-None : goal.returns-in-None
returns-in-None c = rw (← c.in-None.ensures) (c.refused.ensures c.args.user c.args.reply.now)
