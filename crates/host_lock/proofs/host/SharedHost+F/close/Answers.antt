use Rattle.host_lock.proofs.host.SharedHost+F.close.Goals as goal

pub returns-in-Ok-clause-sessions : goal.returns-in-Ok-clause-sessions
returns-in-Ok-clause-sessions g c = rw c.of-journal.ensures c.in-Ok.ensures.sessions

pub returns-in-Ok-clause-entries : goal.returns-in-Ok-clause-entries
returns-in-Ok-clause-entries g c = rw c.of-journal.ensures c.in-Ok.ensures.entries
