use Rattle.requests.proofs.CommonNames.{rules, refl, resume, Reply}
use Rattle.requests.proofs.StoppedTracee.{signalled}
use Rattle.requests.proofs.ptrace.resume_with.Goals as goal

pub returns : goal.returns
returns c =
    let rows = c.args.tables.now.rows in
    record { rows = signalled (λ n. resume c.args.settings (record { adds = c.args.adds; stepping = c.args.stepping; pass = n }) c.args.process.now.pid) c.args.arg c.in-Ok.pass Reply.Done rows rows _ rows c.in-Ok.ensures refl c.resume_process.ensures.rows; reply = search rules }
