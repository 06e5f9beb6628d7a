use Rattle.requests.proofs.CommonNames.{rules, refl, detach, Reply}
use Rattle.requests.proofs.StoppedTracee.{signalled}
use Rattle.requests.proofs.ptrace.detach_with.Goals as goal

pub returns : goal.returns
returns c = record { rows = let rows = c.args.tables.now.rows in signalled (detach c.args.settings c.args.process.now.pid) c.args.arg c.in-Ok.pass Reply.Done rows rows _ rows c.in-Ok.ensures refl c.detach_process.ensures.rows; reply = search rules }
